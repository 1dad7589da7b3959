-- What each thing that a thread does makes of a seat's view, and what it tells the thread.
use Rattle.std.specs.Prelude.{◌≡◌, ◌≢◌, ℕ, ◌+◌, ◌-◌, ◌/◌, ◌<◌, ◌≤◌, false, List, [], ◌∷◌, ◌++◌, Option, Some, None, slice_index, nat_eq, length, take}
use Rattle.std.specs.List.{IsDistinct}
use mathlib.Core.List.{IsPrefix}
use Rattle.thread_lock.specs.declared.turns.TheConstants.{MOST_CALLS}
use Rattle.thread_lock.specs.declared.entry.Entry.{Entry}
use Rattle.thread_lock.specs.declared.rule.Kept.{Kept}
use Rattle.thread_lock.specs.declared.rule.Last.{Last}
use Rattle.thread_lock.specs.declared.rule.Opening.{Opening}
use Rattle.thread_lock.specs.declared.rule.View.{View}
use Rattle.thread_lock.specs.declared.rule.Stage.{Stage}
use Rattle.thread_lock.specs.declared.rule.Stage.TheVariants.{New, Idle, Waiting, Turn}
use Rattle.thread_lock.specs.History.{Leads, IsLegal, has, own, entry, longer}
use Rattle.thread_lock.specs.Rule.{Knows}

-- a seat's own number is the first of its numbers
abbrev pub first_number : List ℕ → ℕ
first_number numbers = slice_index numbers 0

-- the numbers before those that came last
abbrev pub front_of : List ℕ → List ℕ → List ℕ
front_of numbers last = take (length numbers - length last) numbers

module _ {S E A : Type 0} where
  abbrev pub view : Option S → List (Entry E A) → List (Entry E A) → List ℕ → List ℕ → ℕ → Stage → View S E A
  view opening seen heard numbers taken left stage =
      record { opening = opening; seen = seen; heard = heard; numbers = numbers; taken = taken; left = left; stage = stage }

  -- the first seat, which has every call
  abbrev pub first_view : Opening S → View S E A
  first_view k = view (Some k.state.value) [] [] (0 ∷ []) [] k.calls Idle

  -- ---- the seats of a call
  abbrev pub waiting_view : View S E A → ℕ → View S E A
  waiting_view v t = view v.opening v.seen v.heard v.numbers v.taken (v.left - 1) (Waiting t)

  abbrev pub turn_view : View S E A → ℕ → List (Entry E A) → View S E A
  turn_view v t seen = view v.opening seen v.heard v.numbers v.taken v.left (Turn t)

  abbrev pub idle_view : View S E A → Entry E A → View S E A
  idle_view v e = view v.opening (v.seen ++ e ∷ []) v.heard v.numbers v.taken v.left Idle

  -- ---- a seat that is split: the new one has half of the calls left, rounded down
  abbrev pub first_half : View S E A → View S E A
  first_half v = view v.opening v.seen v.heard v.numbers v.taken (v.left - v.left / 2) v.stage

  abbrev pub other_half : View S E A → View S E A
  other_half v = view v.opening v.seen v.seen [] v.numbers (v.left / 2) New

  abbrev pub numbered_view : View S E A → ℕ → View S E A
  numbered_view v n = view v.opening v.seen v.heard (n ∷ []) v.taken v.left Idle

  -- ---- seats that meet: one leaves a note of what it has seen, and the other takes it in
  abbrev pub note_view : View S E A → View S E A
  note_view v = view v.opening v.seen v.seen [] [] 0 New

  abbrev pub told_view : View S E A → View S E A → View S E A
  told_view v w = view v.opening v.seen w.seen v.numbers v.taken v.left v.stage

  abbrev pub settled_view : View S E A → View S E A
  settled_view v = view v.opening (longer v.seen v.heard) v.heard v.numbers v.taken v.left v.stage

  -- ---- two seats that become one
  abbrev pub joint_view : View S E A → View S E A → View S E A
  joint_view v w = view v.opening v.seen v.heard (v.numbers ++ w.numbers) w.numbers (v.left + w.left) v.stage

  -- ---- seats that compare their numbers: one lends its own, has the numbers of both, and gives them back
  abbrev pub bare_view : View S E A → View S E A
  bare_view v = view v.opening v.seen v.heard [] v.taken v.left v.stage

  abbrev pub lent_view : View S E A → View S E A
  lent_view v = view v.opening v.seen v.heard v.numbers v.numbers 0 Idle

  abbrev pub kept_view : View S E A → View S E A
  kept_view v = view v.opening v.seen v.heard (front_of v.numbers v.taken) v.taken v.left v.stage

  abbrev pub back_view : View S E A → View S E A
  back_view v = view v.opening v.seen v.heard v.taken v.taken 0 Idle

  abbrev pub spent_view : View S E A
  spent_view = view None [] [] [] [] 0 Idle

  -- ---- what each of these tells
  -- the first word is found at the ticket's number
  abbrev pub Draws : Knows S E A → ℕ → Knows S E A → Type 0
  Draws m found m' = m' ≡ (waiting_view m.0 found, m.1)

  abbrev pub DrawsNext : ℕ → Knows S E A → ℕ → Knows S E A → Type 0
  DrawsNext expected m found m' = (found ≡ expected → Draws m found m') × (found ≢ expected → m' ≡ m)

  -- the ticket is let in: the seat has the slot, whose state is where the history so far leads
  pub record TakesTurn (steps : S → E → A → S → Type 0) (m : Knows S E A) (ticket : ℕ) (m' : Knows S E A) : Type 0 where
    pub kept : Kept S E A
    pub between : List (Entry E A)
    pub is : m' ≡ (turn_view m.0 ticket (m.0.seen ++ between), (0, kept) ∷ m.1)
    pub others : own m.0.numbers between ≡ []
    pub leads : (s : S) → m.0.opening ≡ Some s → Leads steps s (m.0.seen ++ between) kept.state

  abbrev pub Looks : (S → E → A → S → Type 0) → Knows S E A → ℕ → Knows S E A → Type 0
  Looks steps m found m' = (t : ℕ) → m.0.stage ≡ Waiting t → (found ≢ t → m' ≡ m) × (found ≡ t → TakesTurn steps m t m')

  -- the slot is given back, and its last call enters the history
  abbrev pub Serves : Knows S E A → Knows S E A → Type 0
  Serves m m' =
      (kept : Kept S E A) (last : Last E A) → m.1 ≡ (0, kept) ∷ [] → kept.last.value ≡ Some last
      → m' ≡ (idle_view m.0 (entry (first_number m.0.numbers) last.event.value last.answer.value), [])

  -- and the ticket served is the number of the calls before it
  abbrev pub ServesAt : ℕ → Knows S E A → Knows S E A → Type 0
  ServesAt found m m' = Serves m m' × (found ≡ length m.0.seen) × (found < MOST_CALLS)

  -- after a visit the slot is given back, and a call that leads from the state that was found to the one that was left enters the history
  abbrev pub ServesVisit : (S → E → A → S → Type 0) → Knows S E A → Knows S E A → Type 0
  ServesVisit steps m m' =
      (kept : Kept S E A) → m.1 ≡ (0, kept) ∷ []
      → (event : E) × (answer : A) × steps kept.before.value event answer kept.state × (m' ≡ (idle_view m.0 (entry (first_number m.0.numbers) event answer), []))

  -- and the ticket let in is the number of the calls before it, as after a call
  abbrev pub ServesVisitAt : (S → E → A → S → Type 0) → ℕ → Knows S E A → Knows S E A → Type 0
  ServesVisitAt steps found m m' = ServesVisit steps m m' × (found ≡ length m.0.seen) × (found < MOST_CALLS)

  -- a seat gets a number that no seat had
  abbrev pub GetsNumber : Knows S E A → Knows S E A → Type 0
  GetsNumber m m' = (n : ℕ) × (m' ≡ (numbered_view m.0 n, m.1)) × (has m.0.taken n ≡ false) × (own (n ∷ []) m.0.seen ≡ [])

  -- of two beginnings of the history the longer is seen, in which there are no further calls of the seat
  pub record Settles (steps : S → E → A → S → Type 0) (m m' : Knows S E A) : Type 0 where
    pub is : m' ≡ (settled_view m.0, m.1)
    pub more : List (Entry E A)
    pub seen : m.0.seen ++ more ≡ longer m.0.seen m.0.heard
    pub others : own m.0.numbers more ≡ []
    pub heard : IsPrefix m.0.heard (longer m.0.seen m.0.heard)
    pub legal : (s : S) → m.0.opening ≡ Some s → IsLegal steps s (longer m.0.seen m.0.heard)

  -- nothing changes for the seat, which has not too many calls left, and numbers that differ
  pub record Stays (m m' : Knows S E A) : Type 0 where
    pub is : m' ≡ m
    pub few : m.0.left ≤ MOST_CALLS
    pub distinct : IsDistinct nat_eq m.0.numbers

  -- ---- and what several make
  -- the state was stepped in the slot that the seat has, and the call is noted there
  pub record Works (steps : S → E → A → S → Type 0) (m : Knows S E A) (event : E) (answer : A) (m' : Knows S E A) : Type 0 where
    pub before : Kept S E A
    pub after : Kept S E A
    pub call : Last E A
    pub held : m.1 ≡ (0, before) ∷ []
    pub is : m' ≡ (m.0, (0, after) ∷ [])
    pub does : steps before.state event answer after.state
    pub noted : after.last.value ≡ Some call
    pub asked : call.event.value ≡ event
    pub answered : call.answer.value ≡ answer

  -- the history with the call that is noted in the seat's slot leads to the state there
  pub record HasWorked (steps : S → E → A → S → Type 0) (from : S) (m : Knows S E A) : Type 0 where
    pub kept : Kept S E A
    pub call : Last E A
    pub held : m.1 ≡ (0, kept) ∷ []
    pub noted : kept.last.value ≡ Some call
    pub leads : Leads steps from (m.0.seen ++ entry (first_number m.0.numbers) call.event.value call.answer.value ∷ []) kept.state

  -- a ticket was drawn and is let in: the seat has the slot, whose state is where the history so far leads
  pub record Enters (steps : S → E → A → S → Type 0) (v : View S E A) (m' : Knows S E A) : Type 0 where
    pub ticket : ℕ
    pub kept : Kept S E A
    pub between : List (Entry E A)
    pub is : m' ≡ (turn_view (waiting_view v ticket) ticket (v.seen ++ between), (0, kept) ∷ [])
    pub others : own v.numbers between ≡ []
    pub leads : (s : S) → v.opening ≡ Some s → Leads steps s (v.seen ++ between) kept.state

  -- a call leads from the state that a visit found to the one in the seat's slot, and so does the history with that call
  pub record HasVisited (steps : S → E → A → S → Type 0) (from : S) (m : Knows S E A) : Type 0 where
    pub kept : Kept S E A
    pub event : E
    pub answer : A
    pub held : m.1 ≡ (0, kept) ∷ []
    pub does : steps kept.before.value event answer kept.state
    pub leads : Leads steps from (m.0.seen ++ entry (first_number m.0.numbers) event answer ∷ []) kept.state

  -- one call
  pub record Steps (steps : S → E → A → S → Type 0) (v : View S E A) (event : E) (answer : A) (w : View S E A) : Type 0 where
    pub between : List (Entry E A)
    pub seen : w.seen ≡ (v.seen ++ between) ++ entry (first_number v.numbers) event answer ∷ []
    pub others : own v.numbers between ≡ []
    pub legal : (s : S) → v.opening ≡ Some s → IsLegal steps s w.seen
    pub opening : w.opening ≡ v.opening
    pub numbers : w.numbers ≡ v.numbers
    pub left : w.left ≡ v.left - 1
    pub stage : w.stage ≡ Idle

  -- what another seat had seen is seen
  pub record TakesIn (steps : S → E → A → S → Type 0) (v : View S E A) (told : List (Entry E A)) (w : View S E A) : Type 0 where
    pub is : w ≡ view v.opening (longer v.seen told) told v.numbers v.taken v.left v.stage
    pub more : List (Entry E A)
    pub seen : v.seen ++ more ≡ longer v.seen told
    pub others : own v.numbers more ≡ []
    pub heard : IsPrefix told (longer v.seen told)
    pub legal : (s : S) → v.opening ≡ Some s → IsLegal steps s (longer v.seen told)

  -- a view that differs at most in the numbers of others that it knows
  pub record IsSameBut (v w : View S E A) : Type 0 where
    pub opening : w.opening ≡ v.opening
    pub seen : w.seen ≡ v.seen
    pub numbers : w.numbers ≡ v.numbers
    pub left : w.left ≡ v.left
    pub stage : w.stage ≡ v.stage
