-- Kept events as events of the plain book, and the books that they lead to.
use Rattle.std.specs.Prelude.{◌≡◌, ◌==◌, ◌&&◌, ℕ, Bool, true, false, is_ok, IsTrue, List, [], ◌∷◌, Result, Ok, Err, Option, Some, None}
use Rattle.bt_roots.specs.declared.target.Target.{Target}
use Rattle.bt_roots.specs.declared.target.Target.TheVariants.{Map, Prog}
use Rattle.host_state.specs.declared.change.Change.{Change}
use Rattle.host_state.specs.declared.change.Change.TheVariants.{Create, Load}
use Rattle.host_state.specs.declared.reply.Reply.{Reply}
use Rattle.host_state.specs.declared.reply.Reply.TheVariants.{Id, Loaded}
use Rattle.host_state.specs.declared.reply.Refusal.{Refusal}
use Rattle.journal_model.specs.declared.faults.WithoutFault.{WithoutFault}
use Rattle.journal_model.specs.Blank.{Blank}
use Rattle.journal_model.specs.Book.{PlainBook}
use Rattle.journal_model.specs.Run.{PlainEvent, PlainAnswer, Record, Mark, UndoTo, UndoLast, Redo, Without, Forget, Recorded, Marked, UndoneTo, UndoneLast, Redone, TakenOut, Forgot, Given, bookstep}
use Rattle.kept_event.specs.declared.event.KeptEvent.{KeptEvent}
use Rattle.kept_event.specs.declared.event.KeptEvent.TheVariants as kept

-- ---- the event
-- the box that a create comes with again: a fresh one of its attributes and its charge
abbrev pub box_of : Change → Option Blank
box_of (Create id attr charge name path template) = Some (record { make = record { attr = attr; charge = charge }; fresh = true })
box_of _ = None

-- a kept event, as it is done again
abbrev pub event_of : KeptEvent → PlainEvent
event_of (kept.Changed serial change) = Record change (box_of change)
event_of (kept.Marked name) = Mark name
event_of (kept.UndoneTo name) = UndoTo name
event_of kept.UndoneLast = UndoLast
event_of kept.Redone = Redo
event_of (kept.TakenOut serial own) = Without serial
event_of (kept.Forgot name) = Forget name

-- with no failed allocation in it
abbrev pub given_of : KeptEvent → Given
given_of e = (false, event_of e)

-- ---- the answer
-- the map or the program that a change makes
abbrev pub new_object : Change → Option Target
new_object (Create id attr charge name path template) = Some (Map id)
new_object (Load id code name path) = Some (Prog id)
new_object _ = None

-- a reply tells the id of a map or of a program that was made, if one was
abbrev pub tells : Reply → Option Target → Bool
tells reply None = true
tells (Id got) (Some (Map id)) = got == id
tells (Loaded got) (Some (Prog id)) = got == id
tells _ (Some object) = false

-- a change was recorded under this serial, and told the object that it makes
abbrev pub is_recorded_as : ℕ → Option Target → Result (ℕ × Reply) Refusal → Bool
is_recorded_as serial object (Ok done) = done.0 == serial && tells done.1 object
is_recorded_as serial object (Err refusal) = false

-- a change was taken out under this serial
abbrev pub is_taken_out_as : ℕ → Result ℕ WithoutFault → Bool
is_taken_out_as own (Ok got) = got == own
is_taken_out_as own (Err fault) = false

-- an answer accepts a kept event as it was accepted then: a change under its serial, with the id of what it makes, and a taking
-- out under its own serial
abbrev pub answers_as : KeptEvent → PlainAnswer → Bool
answers_as (kept.Changed serial change) (Recorded result) = is_recorded_as serial (new_object change) result
answers_as (kept.Marked name) (Marked result) = is_ok result
answers_as (kept.UndoneTo name) (UndoneTo result) = is_ok result
answers_as kept.UndoneLast (UndoneLast result) = is_ok result
answers_as kept.Redone (Redone result) = is_ok result
answers_as (kept.TakenOut serial own) (TakenOut result) = is_taken_out_as own result
answers_as (kept.Forgot name) (Forgot result) = is_ok result
answers_as _ _ = false

-- ---- one after the other
-- kept events, done again one after the other, lead from a book to another: each is accepted as it was then
abbrev pub LeadTo : PlainBook → List KeptEvent → PlainBook → Type 0
LeadTo b [] c = b ≡ c
LeadTo b (e ∷ es) c = let made = bookstep false b (event_of e) in IsTrue (answers_as e made.1) × LeadTo made.0 es c
