-- Lines of a talk with a live host, one after the other.
use Rattle.std.proofs.Common.{◌≡◌, inl, inr, ℕ, ◌<◌, List, [], ◌∷◌, length, refl, subst, Option, Some, None, Result, Ok, Err}
use Rattle.std.specs.Prelude.{IfOk, OnOk}
use Rattle.std.specs.Option.{IfSome}
use Rattle.std.specs.Io.BufRead.{take_through, DropsThrough}
use Rattle.bt_mapkind.specs.declared.attr.MapAttr.{MapAttr}
use Rattle.bt_mapkind.specs.Seen.{Seen}
use Rattle.journal_model.specs.Book.{PlainBook}
use Rattle.journal_model.specs.Run.{PlainEvent}
use Rattle.bt_without.specs.declared.events.Answer.{Answer}
use Rattle.thread_lock.specs.declared.sequential.Sequential.{Ghosts}
use Rattle.bt_desk.specs.declared.desk.Desk.{Desk}
use Rattle.bt_desk.specs.Seats.{IsSeatAt}
use Rattle.console_operand.specs.Line.{lines_of}
use Rattle.bt_syntax.specs.declared.files.FileText.{FileText}
use Rattle.bt_console.specs.declared.supply.NoBox.{NoBox}
use Rattle.console_script.specs.declared.summary.Summary.{Summary}
use Rattle.thread_live.specs.declared.traffic.Traffic.{Traffic}
use Rattle.thread_live.specs.Footings.{Footing}
use Rattle.console_talk.specs.declared.manner.Manner.TheVariants.{Dialogue}
use Rattle.thread_lock.specs.declared.seat.Seat.{Seat}
use Rattle.console_looks.specs.declared.look.Look.{Look}
use Rattle.thread_asides.specs.Looked.{TellsLookAt}
use Rattle.console_talk.specs.Talk.{said, Asks, looks, Ends}
use Rattle.bpfcon.specs.LiveTalk.{IsAnsweredLive, GoesLive, HasComeLive}
use Rattle.console_talk.proofs.Spoken.{gave_none, come_on}

-- what holds in any case holds if a call came to its end
pub whenever : {T E P : Type 0} (r : Result T E) → P → IfOk r (λ _. P)
whenever (Ok done) holds = holds
whenever (Err fault) holds = tt

-- a line that asks for no help goes as it is answered, or as what is told of a look
module _ {K S E : Type 0} {g : Ghosts PlainBook PlainEvent Answer} (gives : S → MapAttr → Result K NoBox → S → Type 0) (kind : K → Seen) (named : List ℕ → List FileText → Type 0) (desk : Desk K) (traffic : Traffic) (most : ℕ)
    (line : List ℕ) (from to : Footing S g) (before behind : Summary) where
  pub heard_live : (result : Result (Unit {0}) E) → ¬ (Asks Dialogue line) → looks Dialogue line ≡ None
      → IfOk result (λ _. (files : List FileText) × IsAnsweredLive gives kind named desk traffic most (said line files) from before to behind)
      → IfOk result (λ _. (files : List FileText) × GoesLive gives kind named desk traffic most (said line files) from before to behind)
  heard_live (Ok done) asks_not looks_not it = (it.0, inr (inr (record { asks_not = asks_not; looks_not = looks_not; answered = it.1 })))
  heard_live (Err fault) asks_not looks_not it = tt

  pub looked_live : (result : Result (Unit {0}) E) (look : Look) (old_looker new_looker : Seat PlainBook PlainEvent Answer g) → ¬ (Asks Dialogue line) → looks Dialogue line ≡ Some look → IsSeatAt desk old_looker
      → OnOk result (TellsLookAt desk look old_looker new_looker from.text to.text) → to.session ≡ from.session → to.seat ≡ from.seat → behind ≡ before
      → IfOk result (λ _. (files : List FileText) × GoesLive gives kind named desk traffic most (said line files) from before to behind)
  looked_live (Ok done) look old_looker new_looker asks_not looks_so sits told session seat counted =
      ([], inr (inl (record { asks_not = asks_not; look = look; looks_so = looks_so; old_looker = old_looker; new_looker = new_looker; sits = sits; tells = told; session = session; seat = seat; counted = counted })))
  looked_live (Err fault) look old_looker new_looker asks_not looks_so sits told session seat counted = tt

module _ {K S : Type 0} {g : Ghosts PlainBook PlainEvent Answer} (gives : S → MapAttr → Result K NoBox → S → Type 0) (kind : K → Seen) (named : List ℕ → List FileText → Type 0) (desk : Desk K) (traffic : Traffic) (most : ℕ)
    (input : Option (List ℕ)) (from : Footing S g) (before : Summary) where
  pub come_live_none : HasComeLive gives kind named desk traffic most input from before input from before
  come_live_none = record { said = []; went = refl; gave = gave_none input; none_ends = tt }

  pub come_live_more : (left next : Option (List ℕ)) (mid to : Footing S g) (between behind : Summary) (files : List FileText) (given line after : List ℕ)
      → HasComeLive gives kind named desk traffic most input from before left mid between → IfSome left (λ text. given ≡ take_through 10 text) → DropsThrough left next 10 → 0 < length given
      → lines_of given ≡ line ∷ lines_of after → ¬ (Ends Dialogue line) → (most' : ℕ) → most' ≡ most → GoesLive gives kind named desk traffic most' (said line files) mid between to behind
      → HasComeLive gives kind named desk traffic most input from before next to behind
  come_live_more left next mid to between behind files given line after come read drops some cut goes_on most' same goes =
      let it = said line files in
      come_on (λ it (p q : Footing S g × Summary). GoesLive gives kind named desk traffic most it p.0 p.1 q.0 q.1) Dialogue input (from, before) left next (mid, between) (to, behind) it given after come read drops some cut goes_on
      (subst (λ m. GoesLive gives kind named desk traffic m it mid between to behind) same goes)
