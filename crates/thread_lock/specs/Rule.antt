-- The rule of the table: whatever the threads do, there is one legal history, which begins with what each seat has seen. Word 0
-- counts the tickets drawn, word 1 those let in, and word 2 is a bell to sleep by. The slot has the state while no seat holds
-- it.
use Rattle.std.specs.Prelude.{◌≡◌, ◌⊎◌, ℕ, zero, suc, ◌+◌, ◌<◌, ◌≤◌, Bool, true, false, List, [], ◌∷◌, ◌++◌, Option, Some, None, sum_by, nat_eq, length}
use Rattle.std.specs.List.{IsDistinct}
use mathlib.Core.List.{IsPrefix}
use mathlib.Core.Option.{none, some}
use mathlib.Core.Option as maybe
use lib.ListN.{get_elem?}
use Rattle.atomic_table.specs.Table.{State, Me}
use Rattle.thread_lock.specs.declared.turns.TheConstants.{MOST_CALLS}
use Rattle.thread_lock.specs.declared.entry.Entry.{Entry}
use Rattle.thread_lock.specs.declared.rule.Kept.{Kept}
use Rattle.thread_lock.specs.declared.rule.Opening.{Opening}
use Rattle.thread_lock.specs.declared.rule.View.{View}
use Rattle.thread_lock.specs.declared.rule.Stage.{Stage}
use Rattle.thread_lock.specs.declared.rule.Stage.TheVariants.{New, Idle, Waiting, Turn}
use Rattle.thread_lock.specs.History.{Leads, has, own}

-- what a seat knows, and the slot where it has it
abbrev pub Knows : Type 0 → Type 0 → Type 0 → Type 0
Knows S E A = Me (Kept S E A) (View S E A)

abbrev pub is_numbered : Stage → Bool
is_numbered New = false
is_numbered Idle = true
is_numbered (Waiting t) = true
is_numbered (Turn t) = true

-- the ticket of a seat that waits or holds the state
abbrev pub ticket_of : Stage → Option ℕ
ticket_of New = None
ticket_of Idle = None
ticket_of (Waiting t) = Some t
ticket_of (Turn t) = Some t

-- tickets are let in by their numbers, and all of the history is seen by the seat that holds the state
abbrev pub Stands : {E A : Type 0} → List (Entry E A) → ℕ → ℕ → List (Entry E A) → Stage → Type 0
Stands log drawn served seen New = Unit {0}
Stands log drawn served seen Idle = Unit {0}
Stands log drawn served seen (Waiting t) = (served ≤ t) × (t < drawn)
Stands log drawn served seen (Turn t) = (t ≡ served) × (t < drawn) × (log ≡ seen)

module _ {S E A : Type 0} where
  abbrev pub HasTicket : View S E A → ℕ → Type 0
  HasTicket v t = ticket_of v.stage ≡ Some t

  abbrev pub HasNumber : View S E A → ℕ → Type 0
  HasNumber v n = has v.numbers n ≡ true

  -- the number was another's when this seat was split off
  abbrev pub HasTaken : View S E A → ℕ → Type 0
  HasTaken v n = has v.taken n ≡ true

  -- no two seats have one of these
  abbrev pub Apart : (View S E A → ℕ → Type 0) → List (View S E A) → Type 0
  Apart Has views = (i j n : ℕ) (v w : View S E A) → get_elem? views i ≡ some v → get_elem? views j ≡ some w → Has v n → Has w n → i ≡ j

  -- a seat's number is its place among all seats, once it has one
  abbrev pub is_number : List (View S E A) → ℕ → Bool
  is_number [] n = false
  is_number (v ∷ vs) zero = is_numbered v.stage
  is_number (v ∷ vs) (suc n) = is_number vs n

  abbrev pub AllNumbers : (View S E A → ℕ → Type 0) → List (View S E A) → Type 0
  AllNumbers Has views = (j n : ℕ) (v : View S E A) → get_elem? views j ≡ some v → Has v n → is_number views n ≡ true

  -- what a seat knows is so: the history begins with what it has seen, and has no call of its own after that
  pub record Fits (key : S) (log : List (Entry E A)) (drawn served : ℕ) (v : View S E A) : Type 0 where
    pub opening : (s : S) → v.opening ≡ Some s → s ≡ key
    pub rest : List (Entry E A)
    pub seen : v.seen ++ rest ≡ log
    pub others : own v.numbers rest ≡ []
    pub heard : IsPrefix v.heard log
    pub distinct : IsDistinct nat_eq v.numbers
    pub stands : Stands log drawn served v.seen v.stage

  pub record Seats (key : S) (log : List (Entry E A)) (drawn served : ℕ) (views : List (View S E A)) : Type 0 where
    pub each : (j : ℕ) (v : View S E A) → get_elem? views j ≡ some v → Fits key log drawn served v
    pub tickets : Apart HasTicket views
    pub numbers : Apart HasNumber views
    pub made : AllNumbers HasNumber views
    pub taken : AllNumbers HasTaken views
    -- what is no number yet has no call
    pub unused : (n : ℕ) → is_number views n ≡ false → own (n ∷ []) log ≡ []

  -- the slot has the state, or is out with the seat whose ticket is let in
  abbrev pub Lies : S → ℕ → List (maybe.Option (Kept S E A)) → List (View S E A) → Type 0
  Lies state served homes views =
      ((kept : Kept S E A) × (kept.state ≡ state) × (homes ≡ some kept ∷ []))
      ⊎ ((homes ≡ none ∷ []) × ((j : ℕ) × (v : View S E A) × (get_elem? views j ≡ some v) × (v.stage ≡ Turn served)))

  abbrev pub calls_left : List (View S E A) → ℕ
  calls_left views = sum_by (λ v. v.left) views

  pub record Ruled (steps : S → E → A → S → Type 0) (k : Opening S) (s : State (Kept S E A) (View S E A)) : Type 0 where
    pub drawn : ℕ
    pub served : ℕ
    pub bell : ℕ
    pub log : List (Entry E A)
    pub state : S
    pub words : s.words ≡ drawn ∷ served ∷ bell ∷ []
    pub behind : served ≤ drawn
    pub room : drawn + calls_left s.views ≤ k.calls
    pub small : k.calls ≤ MOST_CALLS
    -- each ticket let in is a call
    pub count : length log ≡ served
    pub leads : Leads steps k.state.value log state
    pub lies : Lies state served s.homes s.views
    pub seats : Seats k.state.value log drawn served s.views
