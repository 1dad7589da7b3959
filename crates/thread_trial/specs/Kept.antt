-- What the keeper of a try does at a desk.
use Rattle.std.specs.Prelude.{◌≡◌, ◌⊎◌, ℕ, ◌-◌, List, length, Option}
use Rattle.std.specs.Option.{option_map}
use Rattle.journal_model.specs.Book.{PlainBook}
use Rattle.journal_model.specs.Marks.{moments_at}
use Rattle.journal_model.specs.Run.{PlainEvent, UndoTo}
use Rattle.bt_without.specs.declared.events.Answer.{Answer}
use Rattle.thread_lock.specs.declared.sequential.Sequential.{Ghosts}
use Rattle.thread_lock.specs.declared.seat.Seat.{Seat}
use Rattle.thread_lock.specs.Seats.{Called, calls_left}
use Rattle.bt_desk.specs.declared.desk.Desk.{Desk}
use Rattle.bt_desk.specs.Visits.{VisitedAt}

-- how many moments came after a mark, if one of this name stands
abbrev pub moments_since : List ℕ → PlainBook → Option ℕ
moments_since name b = option_map (λ at. length b.line.moments - at) (moments_at name b.marks)

module _ {g : Ghosts PlainBook PlainEvent Answer} where
  -- the seat's next call is an undo to this mark; or it had no calls left
  abbrev pub Undoes : List ℕ → Seat PlainBook PlainEvent Answer g → Seat PlainBook PlainEvent Answer g → Type 0
  Undoes name old new = ((calls_left old ≡ 0) × (new ≡ old)) ⊎ ((answer : Answer) × Called old (UndoTo name) answer new)

module _ {K : Type 0} {g : Ghosts PlainBook PlainEvent Answer} (desk : Desk K) where
  -- so many moments came after a mark of the book as it was in one call, which stayed as it was
  abbrev pub LooksAt : List ℕ → Option ℕ → Seat PlainBook PlainEvent Answer g → Seat PlainBook PlainEvent Answer g → Type 0
  LooksAt name since old new = VisitedAt desk (λ before after. (after ≡ before) × (since ≡ moments_since name before)) old new

  -- all that the seat did was to look at marks, and to undo to marks
  pub data Keeps (old : Seat PlainBook PlainEvent Answer g) : Seat PlainBook PlainEvent Answer g → Type 0 where
    still : Keeps old old
    looked : (name : List ℕ) (since : Option ℕ) (mid new : Seat PlainBook PlainEvent Answer g) → Keeps old mid → LooksAt name since mid new → Keeps old new
    undid : (name : List ℕ) (answer : Answer) (mid new : Seat PlainBook PlainEvent Answer g) → Keeps old mid → Called mid (UndoTo name) answer new → Keeps old new

  -- if it did no more before, it did no more since
  abbrev pub KeepsOn : Seat PlainBook PlainEvent Answer g → Seat PlainBook PlainEvent Answer g → Type 0
  KeepsOn old new = (first : Seat PlainBook PlainEvent Answer g) → Keeps first old → Keeps first new
