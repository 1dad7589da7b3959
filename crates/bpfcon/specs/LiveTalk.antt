-- A talk with a live host: lines that are answered one by one, each when it is given.
use Rattle.std.specs.Prelude.{◌≡◌, ◌⊎◌, ℕ, List, Option, Some, None, Result}
use Rattle.std.specs.Io.KnownBytes.{Keeps}
use Rattle.bt_mapkind.specs.declared.attr.MapAttr.{MapAttr}
use Rattle.bt_mapkind.specs.Seen.{Seen}
use Rattle.journal_model.specs.Book.{PlainBook}
use Rattle.journal_model.specs.Run.{PlainEvent}
use Rattle.bt_without.specs.declared.events.Answer.{Answer}
use Rattle.thread_lock.specs.declared.sequential.Sequential.{Ghosts}
use Rattle.bt_desk.specs.declared.desk.Desk.{Desk}
use Rattle.bt_desk.specs.Seats.{IsSeatAt}
use Rattle.bt_syntax.specs.declared.files.FileText.{FileText}
use Rattle.bt_console.specs.declared.supply.NoBox.{NoBox}
use Rattle.console_script.specs.declared.summary.Summary.{Summary}
use Rattle.console_script.specs.declared.tally.Tally.{Tally}
use Rattle.thread_live.specs.declared.traffic.Traffic.{Traffic}
use Rattle.thread_lock.specs.declared.seat.Seat.{Seat}
use Rattle.thread_live.specs.Footings.{Footing, footing}
use Rattle.thread_live.specs.Crew.{Parted}
use Rattle.thread_live.specs.Standings.{EndsTraffic}
use Rattle.thread_live.specs.Lines.{LineGoes}
use Rattle.console_looks.specs.declared.look.Look.{Look}
use Rattle.thread_asides.specs.Looked.{TellsLookAt}
use Rattle.console_talk.specs.declared.manner.Manner.TheVariants.{Dialogue}
use Rattle.console_talk.specs.Talk.{Said, Asks, looks, HasComeTo, MayStop}

module _ {K S : Type 0} {g : Ghosts PlainBook PlainEvent Answer} (gives : S → MapAttr → Result K NoBox → S → Type 0) (kind : K → Seen) (named : List ℕ → List FileText → Type 0) (desk : Desk K) (traffic : Traffic) (most : ℕ) where
  -- a line was answered with the files that it names, and counted; and then what was written was handed on
  pub record IsAnsweredLive (it : Said) (from : Footing S g) (before : Summary) (to : Footing S g) (behind : Summary) : Type 0 where
    pub files : named it.line it.files
    pub done : Footing S g
    pub tally : Tally
    pub goes : LineGoes gives kind it.files desk traffic most it.line before from done tally
    pub counted : behind ≡ tally.summary
    pub session : to.session ≡ done.session
    pub seat : to.seat ≡ done.seat
    pub text : Keeps done.text to.text

  -- a line that asks for help does, writes and counts nothing
  pub record IsHelpedLive (it : Said) (from : Footing S g) (before : Summary) (to : Footing S g) (behind : Summary) : Type 0 where
    pub asks : Asks Dialogue it.line
    pub same : to ≡ from
    pub counted : behind ≡ before

  -- a line that asks for a look does and counts nothing, and tells what another seat looks at
  pub record IsLookedLive (it : Said) (from : Footing S g) (before : Summary) (to : Footing S g) (behind : Summary) : Type 0 where
    pub asks_not : ¬ (Asks Dialogue it.line)
    pub look : Look
    pub looks_so : looks Dialogue it.line ≡ Some look
    pub old_looker : Seat PlainBook PlainEvent Answer g
    pub new_looker : Seat PlainBook PlainEvent Answer g
    pub sits : IsSeatAt desk old_looker
    pub tells : TellsLookAt desk look old_looker new_looker from.text to.text
    pub session : to.session ≡ from.session
    pub seat : to.seat ≡ from.seat
    pub counted : behind ≡ before

  -- and any other is answered
  pub record IsHeardLive (it : Said) (from : Footing S g) (before : Summary) (to : Footing S g) (behind : Summary) : Type 0 where
    pub asks_not : ¬ (Asks Dialogue it.line)
    pub looks_not : looks Dialogue it.line ≡ None
    pub answered : IsAnsweredLive it from before to behind

  abbrev pub GoesLive : Said → Footing S g → Summary → Footing S g → Summary → Type 0
  GoesLive it from before to behind = IsHelpedLive it from before to behind ⊎ (IsLookedLive it from before to behind ⊎ IsHeardLive it from before to behind)

  -- up to here, lines of an input were given and went so, and none of them was a `quit`
  abbrev pub HasComeLive : Option (List ℕ) → Footing S g → Summary → Option (List ℕ) → Footing S g → Summary → Type 0
  HasComeLive input from before left to behind = HasComeTo (λ it (p q : Footing S g × Summary). GoesLive it p.0 p.1 q.0 q.1) Dialogue input (from, before) left (to, behind)

  -- each line of an input went so, up to its end or to a `quit`
  pub record TalkedLive (input : Option (List ℕ)) (from : Footing S g) (before : Summary) (to : Footing S g) (behind : Summary) : Type 0 where
    pub unsaid : Option (List ℕ)
    pub came : HasComeLive input from before unsaid to behind
    pub stops : MayStop Dialogue unsaid

  -- Lines were answered up to the end of an input or to a `quit`, and then the traffic was ended and told of for the last time. From
  -- the console's seat another was parted before, by which the host is looked at for hints
  pub record TalkedToEnd (input : Option (List ℕ)) (from : Footing S g) (before : Summary) (new : Seat PlainBook PlainEvent Answer g) (text : Option (List ℕ)) (behind : Summary) : Type 0 where
    pub mid : Seat PlainBook PlainEvent Answer g
    pub looker : Seat PlainBook PlainEvent Answer g
    pub parted : Parted from.seat mid looker
    pub last : Footing S g
    pub talked : TalkedLive input (footing from.session mid from.text) before last behind
    pub ends : EndsTraffic desk traffic most last.seat new last.text text
