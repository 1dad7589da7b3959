-- Histories of calls: the state that they lead to, and whose calls stand in them.
use Rattle.std.specs.Prelude.{◌≡◌, ℕ, ◌==◌, Bool, true, false, List, [], ◌∷◌, length, filter, nat_lt, if◌then◌else◌}
use Rattle.std.specs.List.{list_any}
use Rattle.thread_lock.specs.declared.entry.Entry.{Entry}

module _ {S E A : Type 0} (steps : S → E → A → S → Type 0) where
  -- the calls, one after another and each with its answer, lead from one state to another
  abbrev pub Leads : S → List (Entry E A) → S → Type 0
  Leads from [] to = from ≡ to
  Leads from (e ∷ es) to = (next : S) × steps from e.event e.answer next × Leads next es to

  -- some event with some answer leads from one state to another
  abbrev pub HasStep : S → S → Type 0
  HasStep from to = (event : E) × (answer : A) × steps from event answer to

  -- one thread alone can have this history
  abbrev pub IsLegal : S → List (Entry E A) → Type 0
  IsLegal from log = (to : S) × Leads from log to

-- n is one of the numbers
abbrev pub has : List ℕ → ℕ → Bool
has numbers n = list_any (λ m. m == n) numbers

-- no number is among both
abbrev pub AreApart : List ℕ → List ℕ → Type 0
AreApart ns ms = (n : ℕ) → has ns n ≡ true → has ms n ≡ false

module _ {E A : Type 0} where
  abbrev pub entry : ℕ → E → A → Entry E A
  entry n e a = record { by = n; event = e; answer = a }

  -- the calls that seats of these numbers made, in order
  abbrev pub own : List ℕ → List (Entry E A) → List (Entry E A)
  own numbers log = filter (λ e. has numbers e.by) log

  -- the longer of two histories
  abbrev pub longer : List (Entry E A) → List (Entry E A) → List (Entry E A)
  longer xs ys = if nat_lt (length xs) (length ys) then ys else xs
