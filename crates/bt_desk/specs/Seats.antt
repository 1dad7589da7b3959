-- What the calls of a desk say of its seats.
use Rattle.std.specs.Prelude.{◌≡◌, ◌≤◌, ◌+◌, ℕ, List, length}
use mathlib.Core.List.{IsPrefix}
use Rattle.journal_model.specs.Book.{PlainBook}
use Rattle.journal_model.specs.Run.{PlainEvent}
use Rattle.bt_without.specs.declared.events.Answer.{Answer}
use Rattle.thread_lock.specs.declared.sequential.Sequential.{Ghosts}
use Rattle.thread_lock.specs.declared.seat.Seat.{Seat}
use Rattle.thread_lock.specs.History.{own}
use Rattle.thread_lock.specs.Seats.{IsSeatOf, opening, seen, numbers, own_calls, calls_left, total_calls as calls_of_turns}
use Rattle.bt_desk.specs.declared.desk.Desk.{Desk}
use Rattle.bt_desk.specs.Histories.{Call, Runs, IsLegal}

-- the book that the desk was opened with
abbrev pub opened : {K : Type 0} → Desk K → PlainBook
opened desk = opening desk.turns

-- how many calls the desk was opened for
abbrev pub total_calls : {K : Type 0} → Desk K → ℕ
total_calls desk = calls_of_turns desk.turns

module _ {K : Type 0} {g : Ghosts PlainBook PlainEvent Answer} where
  -- the seat is one of the desk, and what it has seen is legal from the book that the desk was opened with
  pub record IsSeatAt (desk : Desk K) (seat : Seat PlainBook PlainEvent Answer g) : Type 0 where
    pub of : IsSeatOf desk.turns seat
    pub legal : IsLegal (opened desk) (seen seat)

  -- A legal history leads to the book, which begins with what the seat has seen and has no further call of the seat. With the
  -- calls that the seat has left, there are no more than the desk was opened for
  pub record ClosesAs (desk : Desk K) (seat : Seat PlainBook PlainEvent Answer g) (book : PlainBook) : Type 0 where
    pub history : List Call
    pub runs : Runs (opened desk) history book
    pub begins : IsPrefix (seen seat) history
    pub same_calls : own (numbers seat) history ≡ own_calls seat
    pub room : length history + calls_left seat ≤ total_calls desk
