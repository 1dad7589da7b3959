-- A command that is no frame.
use Rattle.std.specs.Prelude.{Result}
use Rattle.bt_mapkind.specs.declared.attr.MapAttr.{MapAttr}
use Rattle.bt_mapkind.specs.Seen.{Seen}
use Rattle.journal_model.specs.Book.{PlainBook}
use Rattle.journal_model.specs.Run.{PlainEvent}
use Rattle.bt_without.specs.declared.events.Answer.{Answer as EventAnswer}
use Rattle.thread_lock.specs.declared.sequential.Sequential.{Ghosts}
use Rattle.thread_lock.specs.declared.seat.Seat.{Seat}
use Rattle.bt_desk.specs.declared.desk.Desk.{Desk}
use Rattle.bt_syntax.specs.declared.command.Command.{Command}
use Rattle.bt_syntax.specs.declared.command.Command.TheVariants as c
use Rattle.console_answer.specs.declared.answer.Answer.{Answer}
use Rattle.console_script.specs.NoBox.{NoBox}
use Rattle.console_script.specs.CommandLaws.{IsSingle}
use Rattle.thread_at_desk.specs.Ran.{RanAt, CommandAt}
use Rattle.thread_at_desk.specs.declared.session.Session.{Session}

module _ {K S : Type 0} {g : Ghosts PlainBook PlainEvent EventAnswer} (gives : S → MapAttr → Result K NoBox → S → Type 0) (kind : K → Seen) (desk : Desk K) (from : Session S) where
  pub of_single : (command : Command) (answer : Answer) (to : Session S) (old new : Seat PlainBook PlainEvent EventAnswer g) → IsSingle command → RanAt gives kind desk from command answer to old new
      → CommandAt gives kind desk from command answer to old new
  of_single (c.Map command) answer to old new single ran = ran
  of_single (c.Prog command) answer to old new single ran = ran
  of_single (c.Net command) answer to old new single ran = ran
  of_single (c.Batch path) answer to old new single ran = ran
  of_single (c.Unpin path) answer to old new single ran = ran
  of_single (c.Frame frame) answer to old new single ran = absurd single
  of_single (c.Run command) answer to old new single ran = ran
  of_single (c.Journal command) answer to old new single ran = ran
