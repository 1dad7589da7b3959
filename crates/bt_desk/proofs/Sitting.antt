-- What a seat of the turns has seen is legal by the plain book.
use Rattle.journal_model.specs.Book.{PlainBook}
use Rattle.journal_model.specs.Run.{PlainEvent}
use Rattle.bt_without.specs.declared.events.Answer.{Answer}
use Rattle.thread_lock.specs.declared.sequential.Sequential.{Ghosts}
use Rattle.thread_lock.specs.declared.seat.Seat.{Seat}
use Rattle.thread_lock.specs.History.{Leads}
use Rattle.thread_lock.specs.Seats.{IsSeatOf, seen}
use Rattle.bt_desk.specs.declared.desk.Desk.{Desk}
use Rattle.bt_desk.specs.Events.{Steps}
use Rattle.bt_desk.specs.Seats.{opened, IsSeatAt}
use Rattle.bt_desk.proofs.Runs.{legal_runs}

pub seat_at : {K : Type 0} {g : Ghosts PlainBook PlainEvent Answer} (desk : Desk K) (seat : Seat PlainBook PlainEvent Answer g) → IsSeatOf desk.turns seat
    → ((c : PlainBook) × Leads Steps (opened desk) (seen seat) c) → IsSeatAt desk seat
seat_at desk seat sits legal = record { of = sits; legal = legal_runs (opened desk) (seen seat) legal }
