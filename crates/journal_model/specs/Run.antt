-- Events of the plain book, and what a list of them makes of it.
use Rattle.std.specs.Prelude.{ℕ, Bool, List, [], ◌∷◌, alloc_error, if◌then◌else◌, Result, Ok, Err, Option}
use Rattle.std.specs.declared.alloc.AllocError.{AllocError}
use Rattle.bt_verify.specs.Program.{ProgramView}
use Rattle.program_access.specs.declared.access.Access.{Access}
use Rattle.program_access.specs.declared.reply.AccessReply.{AccessReply}
use Rattle.host_state.specs.declared.ask.Ask.{Ask as Question}
use Rattle.host_state.specs.declared.ask.AskReply.{AskReply}
use Rattle.host_state.specs.declared.change.Change.{Change}
use Rattle.host_state.specs.declared.reply.Reply.{Reply}
use Rattle.host_state.specs.declared.reply.Refusal.{Refusal}
use Rattle.host_state.specs.declared.reply.Refusal.TheVariants.{NoMemory}
use Rattle.journal_model.specs.declared.faults.ForgetFault.{ForgetFault}
use Rattle.journal_model.specs.declared.faults.MarkFault.{MarkFault}
use Rattle.journal_model.specs.declared.faults.MarkFault.TheVariants.{NoMemory as NoMemoryForMark}
use Rattle.journal_model.specs.declared.faults.NothingToUndo.{NothingToUndo}
use Rattle.journal_model.specs.declared.faults.RedoFault.{RedoFault}
use Rattle.journal_model.specs.declared.faults.StartFault.{StartFault}
use Rattle.journal_model.specs.declared.faults.StartFault.TheVariants.{NoMemory as NoMemoryForStart}
use Rattle.journal_model.specs.declared.faults.UndoFault.{UndoFault}
use Rattle.journal_model.specs.declared.faults.WithoutFault.{WithoutFault}
use Rattle.journal_model.specs.declared.faults.WithoutFault.TheVariants.{NoMemory as NoMemoryForWithout}
use Rattle.journal_model.specs.declared.listed.JournalList.{JournalList}
use Rattle.journal_model.specs.Blank.{Blank}
use Rattle.journal_model.specs.Book.{PlainBook, recorded, marked, undone_to, undone_last, redone, asked}
use Rattle.journal_model.specs.Without.{taken_out}
use Rattle.journal_model.specs.Forget.{forgotten}
use Rattle.journal_model.specs.Listed.{listed}
use Rattle.journal_model.specs.Serve.{started, served, want_told}

-- one event: a box that comes with a change stands there as its blank; the change of a serial is taken out; the past before
-- a mark is forgotten; a frame starts on a device, and an access is that of the running program
pub data PlainEvent : Type 0 where
  Record : Change → Option Blank → PlainEvent
  Mark : List ℕ → PlainEvent
  UndoTo : List ℕ → PlainEvent
  UndoLast : PlainEvent
  Redo : PlainEvent
  Without : ℕ → PlainEvent
  Forget : List ℕ → PlainEvent
  ListAll : PlainEvent
  Ask : Question → PlainEvent
  Start : List ℕ → PlainEvent
  Serve : ℕ → Access → PlainEvent

pub data PlainAnswer : Type 0 where
  Recorded : Result (ℕ × Reply) Refusal → PlainAnswer
  Marked : Result (Unit {0}) MarkFault → PlainAnswer
  UndoneTo : Result ℕ UndoFault → PlainAnswer
  UndoneLast : Result (Unit {0}) NothingToUndo → PlainAnswer
  Redone : Result (Unit {0}) RedoFault → PlainAnswer
  TakenOut : Result ℕ WithoutFault → PlainAnswer
  Forgot : Result (Unit {0}) ForgetFault → PlainAnswer
  Listed : Result JournalList AllocError → PlainAnswer
  Asked : Result AskReply AllocError → PlainAnswer
  Started : Result (Option (ProgramView × ℕ)) StartFault → PlainAnswer
  Served : AccessReply → PlainAnswer

abbrev pub answers_as : {A : Type 0} → (A → PlainAnswer) → PlainBook × A → PlainBook × PlainAnswer
answers_as answer made = (made.0, answer made.1)

-- one event, with whether an allocation failed in it: it answers NoMemory then, an access in its own words, and the book
-- stays. Undo, redo and forgetting take no memory
abbrev pub bookstep : Bool → PlainBook → PlainEvent → PlainBook × PlainAnswer
bookstep refused b (Record change blank) = answers_as Recorded (if refused then (b, Err NoMemory) else recorded b change blank)
bookstep refused b (Mark name) = answers_as Marked (if refused then (b, Err NoMemoryForMark) else marked b name)
bookstep refused b (UndoTo name) = answers_as UndoneTo (undone_to b name)
bookstep refused b UndoLast = answers_as UndoneLast (undone_last b)
bookstep refused b Redo = answers_as Redone (redone b)
bookstep refused b (Without serial) = answers_as TakenOut (if refused then (b, Err NoMemoryForWithout) else taken_out b serial)
bookstep refused b (Forget name) = answers_as Forgot (forgotten b name)
bookstep refused b ListAll = (b, Listed (if refused then Err alloc_error else Ok (listed b)))
bookstep refused b (Ask question) = (b, Asked (if refused then Err alloc_error else Ok (asked b question)))
bookstep refused b (Start device) = (b, Started (if refused then Err NoMemoryForStart else started b device))
bookstep refused b (Serve prog access) = answers_as Served (if refused then (b, want_told access) else served b prog access)

-- an event, with whether an allocation failed in it
abbrev pub Given : Type 0
Given = Bool × PlainEvent

abbrev pub event_of : Given → PlainEvent
event_of given = given.1

-- what a list of events makes of a book, and their answers
abbrev pub bookrun : PlainBook → List Given → PlainBook × List PlainAnswer
bookrun b [] = (b, [])
bookrun b (given ∷ rest) =
    let one = bookstep given.0 b given.1 in
    let more = bookrun one.0 rest in
    (more.0, one.1 ∷ more.1)

abbrev pub book_after : PlainBook → List Given → PlainBook
book_after b events = (bookrun b events).0

abbrev pub answers_of : PlainBook → List Given → List PlainAnswer
answers_of b events = (bookrun b events).1
