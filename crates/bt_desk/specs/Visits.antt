-- What a visit of a desk comes to.
use Rattle.std.specs.Prelude.{◌++◌}
use Rattle.journal_model.specs.Book.{PlainBook}
use Rattle.journal_model.specs.Run.{PlainEvent}
use Rattle.bt_without.specs.declared.events.Answer.{Answer}
use Rattle.thread_lock.specs.declared.sequential.Sequential.{Ghosts}
use Rattle.thread_lock.specs.declared.seat.Seat.{Seat}
use Rattle.thread_lock.specs.Seats.{Called, seen}
use Rattle.bt_desk.specs.declared.desk.Desk.{Desk}
use Rattle.bt_desk.specs.Events.{Steps}
use Rattle.bt_desk.specs.Histories.{Runs}
use Rattle.bt_desk.specs.Seats.{opened}

module _ {K : Type 0} {g : Ghosts PlainBook PlainEvent Answer} where
  -- Calls of others lead to the book that the visit found, and one call of the seat leads from there to the book that it left;
  -- `did` says how the visit led from one to the other
  pub record VisitedAt (desk : Desk K) (did : PlainBook → PlainBook → Type 0) (old new : Seat PlainBook PlainEvent Answer g) : Type 0 where
    pub event : PlainEvent
    pub answer : Answer
    pub called : Called old event answer new
    pub before : PlainBook
    pub after : PlainBook
    pub found : Runs (opened desk) (seen old ++ called.between) before
    pub does : Steps before event answer after
    pub went : did before after
