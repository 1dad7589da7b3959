-- A command that was done at a desk.
use Rattle.std.specs.Prelude.{◌≡◌, ℕ, Result, length}
use Rattle.bt_mapkind.specs.declared.attr.MapAttr.{MapAttr}
use Rattle.bt_mapkind.specs.Seen.{Seen}
use Rattle.journal_model.specs.Book.{PlainBook}
use Rattle.journal_model.specs.Run.{PlainEvent}
use Rattle.bt_without.specs.declared.events.Answer.{Answer as EventAnswer}
use Rattle.thread_lock.specs.declared.sequential.Sequential.{Ghosts}
use Rattle.thread_lock.specs.declared.seat.Seat.{Seat}
use Rattle.bt_desk.specs.declared.desk.Desk.{Desk}
use Rattle.bt_desk.specs.Visits.{VisitedAt}
use Rattle.bt_syntax.specs.declared.command.Command.{Command}
use Rattle.bt_syntax.specs.declared.command.Command.TheVariants as c
use Rattle.console_answer.specs.declared.answer.Answer.{Answer}
use Rattle.console_script.specs.NoBox.{NoBox}
use Rattle.console_script.specs.Frames.{console_of}
use Rattle.console_script.specs.Supply.{CommandRuns}
use Rattle.thread_at_desk.specs.Framed.{FrameAt}
use Rattle.thread_at_desk.specs.declared.session.Session.{Session}

module _ {K S : Type 0} {g : Ghosts PlainBook PlainEvent EventAnswer} where
  -- calls of others lead to a book, on which the command goes and answers as it does there; what it did is one call of the seat
  abbrev pub RanAt : (S → MapAttr → Result K NoBox → S → Type 0) → (K → Seen) → Desk K → Session S → Command → Answer → Session S
      → Seat PlainBook PlainEvent EventAnswer g → Seat PlainBook PlainEvent EventAnswer g → Type 0
  RanAt gives kind desk from command answer to old new =
      VisitedAt desk (λ before after. CommandRuns gives kind (console_of before from.runs) from.supply command (console_of after to.runs, answer) to.supply) old new

  -- the same of any command: a frame is run at several points
  abbrev pub CommandAt : (S → MapAttr → Result K NoBox → S → Type 0) → (K → Seen) → Desk K → Session S → Command → Answer → Session S
      → Seat PlainBook PlainEvent EventAnswer g → Seat PlainBook PlainEvent EventAnswer g → Type 0
  CommandAt gives kind desk from (c.Frame frame) answer to old new = FrameAt desk frame answer old new × (to ≡ from)
  CommandAt gives kind desk from command answer to old new = RanAt gives kind desk from command answer to old new

module _ {K : Type 0} {g : Ghosts PlainBook PlainEvent EventAnswer} where
  -- so many moments were in force in the book as it was in one call
  abbrev pub CountedAt : Desk K → ℕ → Seat PlainBook PlainEvent EventAnswer g → Seat PlainBook PlainEvent EventAnswer g → Type 0
  CountedAt desk count old new = VisitedAt desk (λ before after. (after ≡ before) × (count ≡ length before.line.moments)) old new
