-- A line that was done at a desk.
use Rattle.std.specs.Prelude.{◌≡◌, ◌⊎◌, ℕ, List, Option, Some, None, Result, Ok, Err}
use Rattle.bt_mapkind.specs.declared.attr.MapAttr.{MapAttr}
use Rattle.bt_mapkind.specs.Seen.{Seen}
use Rattle.journal_model.specs.Book.{PlainBook}
use Rattle.journal_model.specs.Run.{PlainEvent}
use Rattle.bt_without.specs.declared.events.Answer.{Answer as EventAnswer}
use Rattle.thread_lock.specs.declared.sequential.Sequential.{Ghosts}
use Rattle.thread_lock.specs.declared.seat.Seat.{Seat}
use Rattle.bt_desk.specs.declared.desk.Desk.{Desk}
use Rattle.bt_syntax.specs.Steps.{line_read}
use Rattle.bt_syntax.specs.declared.command.Command.{Command}
use Rattle.bt_syntax.specs.declared.fault.SyntaxFault.{SyntaxFault}
use Rattle.bt_syntax.specs.declared.files.FileText.{FileText}
use Rattle.console_answer.specs.Answers.{syntax_fault_of}
use Rattle.console_answer.specs.declared.answer.Answer.{Answer}
use Rattle.console_answer.specs.declared.answer.Answer.TheVariants.{Refused}
use Rattle.console_answer.specs.declared.fault.Fault.{Fault}
use Rattle.console_answer.specs.declared.fault.Fault.TheVariants.{NoMemory}
use Rattle.console_script.specs.NoBox.{NoBox}
use Rattle.console_script.specs.Lines.{with_files}
use Rattle.thread_at_desk.specs.Ran.{CommandAt}
use Rattle.thread_at_desk.specs.declared.session.Session.{Session}

-- a line is read as this command, as none, or with this fault; or memory was refused to its reading
abbrev pub ReadsAs : List FileText → List ℕ → Result (Option Command) Fault → Type 0
ReadsAs files line (Ok found) = with_files files (line_read line) ≡ Ok found
ReadsAs files line (Err why) = (why ≡ NoMemory) ⊎ ((fault : SyntaxFault) × (line_read line ≡ Err fault) × (why ≡ syntax_fault_of fault))

module _ {K S : Type 0} {g : Ghosts PlainBook PlainEvent EventAnswer} (gives : S → MapAttr → Result K NoBox → S → Type 0) (kind : K → Seen) where
  -- a line that was read so answers this at a desk: a command is done, and no other line calls it
  abbrev pub AnsweredAt : Desk K → Session S → Result (Option Command) Fault → Option Answer → Session S → Seat PlainBook PlainEvent EventAnswer g → Seat PlainBook PlainEvent EventAnswer g → Type 0
  AnsweredAt desk from (Ok (Some command)) answer to old new = (told : Answer) × (answer ≡ Some told) × CommandAt gives kind desk from command told to old new
  AnsweredAt desk from (Ok None) answer to old new = (answer ≡ None) × (to ≡ from) × (new ≡ old)
  AnsweredAt desk from (Err why) answer to old new = (answer ≡ Some (Refused why)) × (to ≡ from) × (new ≡ old)

  -- a line was read, and done at a desk
  abbrev pub LineAt : List FileText → Desk K → Session S → List ℕ → Option Answer → Session S → Seat PlainBook PlainEvent EventAnswer g → Seat PlainBook PlainEvent EventAnswer g → Type 0
  LineAt files desk from line answer to old new = (read : Result (Option Command) Fault) × ReadsAs files line read × AnsweredAt desk from read answer to old new
