-- What the public calls say of seats.
use Rattle.std.specs.Prelude.{◌≡◌, ℕ, ◌+◌, ◌<◌, ◌≤◌, List, [], ◌∷◌, ◌++◌, Some, nat_eq, length}
use Rattle.std.specs.List.{IsDistinct}
use mathlib.Core.List.{IsPrefix}
use Rattle.thread_lock.specs.declared.entry.Entry.{Entry}
use Rattle.thread_lock.specs.declared.turns.Turns.{Turns}
use Rattle.thread_lock.specs.declared.seat.Seat.{Seat}
use Rattle.thread_lock.specs.declared.sequential.Sequential.{Ghosts}
use Rattle.thread_lock.specs.History.{Leads, IsLegal, own, entry, longer}
use Rattle.thread_lock.specs.Plays.{first_number}

-- the state that the lock was opened with
abbrev pub opening : {S E A : Type 0} → Turns S E A → S
opening turns = turns.table.shared.key.state.value

-- how many calls the lock was opened for
abbrev pub total_calls : {S E A : Type 0} → Turns S E A → ℕ
total_calls turns = turns.table.shared.key.calls

-- b is what the state's type says of its events
module _ {S E A : Type 0} {b : Ghosts S E A} where
  -- the history that a seat has seen
  abbrev pub seen : Seat S E A b → List (Entry E A)
  seen seat = seat.place.me.0.seen

  -- its own number, and after it those of the seats that were joined into it
  abbrev pub numbers : Seat S E A b → List ℕ
  numbers seat = seat.place.me.0.numbers

  abbrev pub number : Seat S E A b → ℕ
  number seat = first_number (numbers seat)

  abbrev pub calls_left : Seat S E A b → ℕ
  calls_left seat = seat.left

  -- the place of its last call in the history
  abbrev pub place_of : Seat S E A b → ℕ
  place_of seat = seat.next

  -- the calls of the seat in what it has seen
  abbrev pub own_calls : Seat S E A b → List (Entry E A)
  own_calls seat = own (numbers seat) (seen seat)

  -- the seat is one of this lock, and what it has seen is legal from the state that it was opened with
  pub record IsSeatOf (turns : Turns S E A) (seat : Seat S E A b) : Type 0 where
    pub table : seat.place.table_id ≡ turns.table.shared.table_id
    pub opened : seat.place.me.0.opening ≡ Some (opening turns)
    pub legal : IsLegal b.steps (opening turns) (seen seat)
    pub numbered : 0 < length (numbers seat)
    pub distinct : IsDistinct nat_eq (numbers seat)

  -- the seat has seen calls of others, and then this one of its own
  pub record Called (old : Seat S E A b) (event : E) (answer : A) (new : Seat S E A b) : Type 0 where
    pub between : List (Entry E A)
    pub adds : seen new ≡ (seen old ++ between) ++ entry (number old) event answer ∷ []
    pub others : own (numbers old) between ≡ []
    pub own_call : own_calls new ≡ own_calls old ++ entry (number old) event answer ∷ []
    pub same_numbers : numbers new ≡ numbers old
    pub one_less : calls_left new + 1 ≡ calls_left old
    pub its_place : place_of new ≡ length (seen new)

  -- The seat has seen calls of others, which lead to the state that its visit found, and then one call of its own, which leads from
  -- there to the state that the visit left. `did` says how the visit led from one to the other
  pub record Visited (turns : Turns S E A) (did : S → S → Type 0) (old new : Seat S E A b) : Type 0 where
    pub event : E
    pub answer : A
    pub called : Called old event answer new
    pub before : S
    pub after : S
    pub found : Leads b.steps (opening turns) (seen old ++ called.between) before
    pub does : b.steps before event answer after
    pub went : did before after

  -- the seat has seen the longer of two histories, which the other one begins, with its own calls in it and those of the other, each once
  pub record Heard (old other new : Seat S E A b) : Type 0 where
    pub is_longer : seen new ≡ longer (seen old) (seen other)
    pub begins : IsPrefix (seen old) (seen new)
    pub other_begins : IsPrefix (seen other) (seen new)
    pub same_calls : own (numbers old) (seen new) ≡ own_calls old
    pub other_calls : own (numbers other) (seen new) ≡ own_calls other

  -- A legal history leads to the state, which begins with what the seat has seen and has no further call of the seat. With the
  -- calls that the seat has left, there are no more than the lock was opened for
  pub record IsLedTo (turns : Turns S E A) (seat : Seat S E A b) (state : S) : Type 0 where
    pub log : List (Entry E A)
    pub leads : Leads b.steps (opening turns) log state
    pub begins : IsPrefix (seen seat) log
    pub same_calls : own (numbers seat) log ≡ own_calls seat
    pub room : length log + calls_left seat ≤ total_calls turns
