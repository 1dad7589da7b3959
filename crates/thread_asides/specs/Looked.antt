-- What is looked at in the journal at a desk.
use Rattle.std.specs.Prelude.{◌≡◌, ℕ, List, Option, Result, IfOk}
use Rattle.std.specs.Option.{option_map}
use Rattle.std.specs.Io.KnownBytes.{Appends}
use Rattle.std.specs.declared.alloc.AllocError.{AllocError}
use Rattle.host_words.specs.declared.word.Word.{Word}
use Rattle.journal_model.specs.Book.{PlainBook, force_of}
use Rattle.journal_model.specs.Run.{PlainEvent}
use Rattle.journal_model.specs.declared.listed.ChangeRow.{ChangeRow}
use Rattle.bt_journal.specs.Serials.{change_in}
use Rattle.bt_without.specs.declared.events.Answer.{Answer as EventAnswer}
use Rattle.thread_lock.specs.declared.sequential.Sequential.{Ghosts}
use Rattle.thread_lock.specs.declared.seat.Seat.{Seat}
use Rattle.bt_desk.specs.declared.desk.Desk.{Desk}
use Rattle.bt_desk.specs.Visits.{VisitedAt}
use Rattle.console_looks.specs.Shown.{shown_in, change_row}
use Rattle.console_looks.specs.Turned.{undone_by, TakesBack}
use Rattle.console_looks.specs.Answered.{looked_text}
use Rattle.console_looks.specs.declared.look.Look.{Look}
use Rattle.console_looks.specs.declared.look.Look.TheVariants.{Show, DryUndo}
use Rattle.console_looks.specs.declared.shown.Showing.{Showing}
use Rattle.console_looks.specs.declared.turned.Turned.{Turned}

-- the change in force of a serial, if there is one
abbrev pub out_in : ℕ → PlainBook → Option ChangeRow
out_in serial b = option_map (change_row serial) (change_in serial (force_of b))

module _ {K T : Type 0} {g : Ghosts PlainBook PlainEvent EventAnswer} where
  -- this was seen of the book as it was in one call, which left it so
  abbrev pub SeenAt : Desk K → (PlainBook → T → Type 0) → T → Seat PlainBook PlainEvent EventAnswer g → Seat PlainBook PlainEvent EventAnswer g → Type 0
  SeenAt desk sees it old new = VisitedAt desk (λ before after. (after ≡ before) × sees before it) old new

module _ {K : Type 0} {g : Ghosts PlainBook PlainEvent EventAnswer} where
  -- this is shown of a serial in the book as it was in one call, which left it so
  abbrev pub ShownAt : Desk K → ℕ → Showing → Seat PlainBook PlainEvent EventAnswer g → Seat PlainBook PlainEvent EventAnswer g → Type 0
  ShownAt desk serial it old new = VisitedAt desk (λ before after. (after ≡ before) × (it ≡ shown_in serial before)) old new

  -- this change has a serial in force there, if one has
  abbrev pub OutAt : Desk K → ℕ → Option ChangeRow → Seat PlainBook PlainEvent EventAnswer g → Seat PlainBook PlainEvent EventAnswer g → Type 0
  OutAt desk serial it old new = SeenAt desk (λ b found. found ≡ out_in serial b) it old new

  -- an undo to a mark, or of the last moment, takes this back there
  abbrev pub BackAt : Desk K → Option Word → Option Turned → Seat PlainBook PlainEvent EventAnswer g → Seat PlainBook PlainEvent EventAnswer g → Type 0
  BackAt desk mark it old new = SeenAt desk (λ b. TakesBack (undone_by mark b) b) it old new

module _ {K : Type 0} {g : Ghosts PlainBook PlainEvent EventAnswer} (desk : Desk K) where
  -- what there is to show of a serial, as the journal was in one call of a seat, was written; or that there was no memory to look
  pub record ShowsAt (serial : ℕ) (old new : Seat PlainBook PlainEvent EventAnswer g) (text_old text_new : Option (List ℕ)) : Type 0 where
    pub looked : Result Showing AllocError
    pub is : IfOk looked (λ it. ShownAt desk serial it old new)
    pub written : Appends text_old text_new (looked_text looked)

  -- what a look tells on the output: an undo that is only looked at tells nothing there
  abbrev pub TellsLookAt : Look → Seat PlainBook PlainEvent EventAnswer g → Seat PlainBook PlainEvent EventAnswer g → Option (List ℕ) → Option (List ℕ) → Type 0
  TellsLookAt (Show serial) old new text_old text_new = ShowsAt serial old new text_old text_new
  TellsLookAt (DryUndo mark) old new text_old text_new = text_new ≡ text_old
