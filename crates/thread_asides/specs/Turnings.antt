-- What a line would turn in the journal, as it is looked at before the line is done.
use Rattle.std.specs.Prelude.{◌≡◌, ⊤, ℕ, Option, Some, None, Result, Ok, Err}
use Rattle.std.specs.declared.alloc.AllocError.{AllocError}
use Rattle.journal_model.specs.Book.{PlainBook}
use Rattle.journal_model.specs.Run.{PlainEvent}
use Rattle.journal_model.specs.declared.listed.ChangeRow.{ChangeRow}
use Rattle.bt_without.specs.declared.events.Answer.{Answer as EventAnswer}
use Rattle.thread_lock.specs.declared.sequential.Sequential.{Ghosts}
use Rattle.thread_lock.specs.declared.seat.Seat.{Seat}
use Rattle.bt_desk.specs.declared.desk.Desk.{Desk}
use Rattle.bt_syntax.specs.declared.command.Command.{Command}
use Rattle.bt_syntax.specs.declared.command.Command.TheVariants.{Journal}
use Rattle.bt_syntax.specs.declared.fault.SyntaxFault.{SyntaxFault}
use Rattle.bt_syntax.specs.declared.journal.JournalCommand.{JournalCommand}
use Rattle.bt_syntax.specs.declared.journal.JournalCommand.TheVariants.{Undo, Redo, Without}
use Rattle.console_looks.specs.Turned.{undone_by, TakesBack}
use Rattle.console_looks.specs.declared.turned.Turned.{Turned}
use Rattle.thread_asides.specs.Looked.{out_in, OutAt}
use Rattle.thread_asides.specs.declared.turning.Turning.{Turning}
use Rattle.thread_asides.specs.declared.turning.Turning.TheVariants.{Nothing, Back, Forth, Out, Unknown}

-- ---- by what was looked at
abbrev pub back_of : Result (Option Turned) AllocError → Turning
back_of (Ok (Some it)) = Back it
back_of (Ok None) = Nothing
back_of (Err no_memory) = Unknown

abbrev pub out_of : Result (Option ChangeRow) AllocError → Turning
out_of (Ok (Some row)) = Out row
out_of (Ok None) = Nothing
out_of (Err no_memory) = Unknown

-- ---- by the line
-- what an undo of so many moments takes back, if there is one
abbrev pub IsBack : Option ℕ → PlainBook → Turning → Type 0
IsBack count b (Back it) = TakesBack count b (Some it)
IsBack count b Nothing = TakesBack count b None
IsBack count b Unknown = ⊤
IsBack count b Forth = ⊥
IsBack count b (Out row) = ⊥

-- the change in force of a serial, if there is one
abbrev pub IsOut : Option ChangeRow → Turning → Type 0
IsOut found (Out row) = Some row ≡ found
IsOut found Nothing = None ≡ found
IsOut found Unknown = ⊤
IsOut found Forth = ⊥
IsOut found (Back it) = ⊥

abbrev pub TurnsBy : JournalCommand → PlainBook → Turning → Type 0
TurnsBy (Undo mark) b it = IsBack (undone_by mark b) b it
TurnsBy Redo b it = it ≡ Forth
TurnsBy (Without serial) b it = IsOut (out_in serial b) it
TurnsBy _ b it = it ≡ Nothing

abbrev pub TurnsSo : Result (Option Command) SyntaxFault → PlainBook → Turning → Type 0
TurnsSo (Ok (Some (Journal command))) b it = TurnsBy command b it
TurnsSo _ b it = it ≡ Nothing

-- a line that was read so would turn this, or there was no memory to say
abbrev pub Turns : Turning → Result (Option Command) SyntaxFault → PlainBook → Type 0
Turns Unknown read b = ⊤
Turns it read b = TurnsSo read b it

-- ---- at a desk
-- what is told of a taking out is the change of its serial, as it was in force in one call of the desk
abbrev pub TurnsAt : {K : Type 0} {g : Ghosts PlainBook PlainEvent EventAnswer} → Desk K → Result (Option Command) SyntaxFault → Turning → Seat PlainBook PlainEvent EventAnswer g → Seat PlainBook PlainEvent EventAnswer g → Type 0
TurnsAt desk read (Out row) old new = (serial : ℕ) × ((read ≡ Ok (Some (Journal (Without serial)))) × OutAt desk serial (Some row) old new)
TurnsAt desk read Nothing old new = ⊤
TurnsAt desk read Unknown old new = ⊤
TurnsAt desk read (Back it) old new = ⊥
TurnsAt desk read Forth old new = ⊥
