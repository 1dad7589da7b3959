-- What holds of every line.
use Rattle.std.specs.Prelude.{◌≡◌, ◌≤◌, ℕ, Bool, false, List, [], ◌∷◌, length, Option, Some, ⊤}
use Rattle.std.specs.List.{AllByRecursion}
use Rattle.journal_model.specs.Blank.{Blank}
use Rattle.journal_model.specs.Book.{PlainBook}
use Rattle.journal_model.specs.Run.{Given, Start, Serve, bookstep, book_after}
use Rattle.bt_syntax.specs.declared.files.FileText.{FileText}
use Rattle.bt_syntax.specs.declared.command.Command.{Command}
use Rattle.bt_syntax.specs.declared.command.Command.TheVariants as c
use Rattle.bt_syntax.specs.declared.frame.Frame.{Frame}
use Rattle.console_answer.specs.declared.answer.Answer.TheVariants.{Refused}
use Rattle.console_answer.specs.declared.fault.Fault.{Fault}
use Rattle.bt_console.specs.Commands.{Course, command_done, unless_refused}
use Rattle.bt_console.specs.Frames.{Console, frame_done, run_step}
use Rattle.bt_console.specs.Lines.{line_done}

-- a line that is refused leaves the book and the open runs as they were
abbrev pub RefusedChangesNothing : List FileText → Console → Course → Option Blank → List ℕ → Type 0
RefusedChangesNothing files c course blank line =
    (fault : Fault) → (line_done files course c blank line).1 ≡ Some (Refused fault) → (line_done files course c blank line).0 ≡ c

-- events lead from the first book to the second
pub record LeadsByEvents (b left : PlainBook) : Type 0 where
  pub events : List Given
  pub book : left ≡ book_after b events

-- one event leads from the first book to the second
pub record LeadsByOneEvent (b left : PlainBook) : Type 0 where
  pub given : Given
  pub book : left ≡ (bookstep given.0 b given.1).0

-- a command that is no frame
abbrev pub IsSingle : Command → Type 0
IsSingle (c.Frame frame) = ⊥
IsSingle _ = ⊤

-- such a command is one event; if it only asks, or memory is refused to it, a question
abbrev pub IsOneEvent : Console → Course → Command → Option Blank → Type 0
IsOneEvent s course command blank = IsSingle command → LeadsByOneEvent s.book (unless_refused course.refused s (command_done s course command blank)).0.book

-- an access of a running program
abbrev pub IsAccess : Given → Type 0
IsAccess (refused, Serve prog access) = ⊤
IsAccess _ = ⊥

-- accesses of running programs lead from the first book to the second
pub record LeadsByAccesses (b left : PlainBook) : Type 0 where
  pub accesses : List Given
  pub all : AllByRecursion IsAccess accesses
  pub book : left ≡ book_after b accesses

-- a frame is a start, and then accesses
abbrev pub IsStartAndAccesses : PlainBook → List Bool → Frame → Type 0
IsStartAndAccesses b wants frame = LeadsByAccesses (book_after b ((false, Start frame.device) ∷ [])) (frame_done b wants frame).0

-- a step of a run is an access, or none
abbrev pub IsOneAccessAtMost : Console → List Bool → ℕ → Type 0
IsOneAccessAtMost c wants number = (it : LeadsByAccesses c.book (run_step c wants number).0.book) × (length it.accesses ≤ 1)
