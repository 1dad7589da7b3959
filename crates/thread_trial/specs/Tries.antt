-- How a change begins to be tried.
use Rattle.std.specs.Prelude.{◌≡◌, ◌⊎◌, ℕ, List, Option, Some, None, Result, Ok, Err, IsErr}
use Rattle.journal_model.specs.Book.{PlainBook}
use Rattle.journal_model.specs.Run.{PlainEvent, Mark}
use Rattle.journal_model.specs.declared.faults.MarkFault.TheVariants.{NoMemory}
use Rattle.bt_without.specs.declared.events.Answer.{Answer}
use Rattle.bt_without.specs.declared.events.Answer.TheVariants.{Marked}
use Rattle.thread_lock.specs.declared.sequential.Sequential.{Ghosts}
use Rattle.thread_lock.specs.declared.seat.Seat.{Seat}
use Rattle.thread_lock.specs.Seats.{Called}
use Rattle.thread_trial.specs.declared.trial.Trial.{Trial}
use Rattle.thread_trial.specs.declared.trials.TryFault.{TryFault}
use Rattle.thread_trial.specs.declared.trials.TryFault.TheVariants as fault

-- what an answer to a call for a mark says of the try
abbrev pub marked_by : Answer → Result (Unit {0}) TryFault
marked_by (Marked (Ok done)) = Ok done
marked_by (Marked (Err why)) = Err (fault.Mark why)
marked_by _ = Err (fault.Mark NoMemory)

-- the try comes after the mark of this name
abbrev pub IsTryOf : List ℕ → Trial → Type 0
IsTryOf name trial = trial.name ≡ name

-- a change was tried after the mark of this name
abbrev pub WasPending : List ℕ → Option Trial → Type 0
WasPending name (Some trial) = IsTryOf name trial
WasPending name None = ⊥

module _ {g : Ghosts PlainBook PlainEvent Answer} where
  -- the seat's next call asks for the mark, and its answer says whether the change is tried; or the try was refused before that
  abbrev pub Begins : List ℕ → Result (Unit {0}) TryFault → Seat PlainBook PlainEvent Answer g → Seat PlainBook PlainEvent Answer g → Type 0
  Begins name told old new = (IsErr told × (new ≡ old)) ⊎ ((answer : Answer) × Called old (Mark name) answer new × (told ≡ marked_by answer))
