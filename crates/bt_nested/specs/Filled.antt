-- The slots that hold an id: their indices, in ascending order.
use Rattle.std.specs.Prelude.{◌≡◌, ◌<◌, ◌≤◌, ◌^◌, ℕ, Bool, nat_lt, if◌then◌else◌, List, [], ◌∷◌, ◌++◌, length, map, slice_index, Option, is_some}
use Rattle.std.specs.List.{filter, enumerate_from}

-- the indices of the filled slots, if the first slot has the index n
abbrev pub filled_from : ℕ → List (Option ℕ) → List ℕ
filled_from n ids = map (λ e. e.0) (filter (λ e. is_some e.1) (enumerate_from n ids))

abbrev pub filled : List (Option ℕ) → List ℕ
filled ids = filled_from 0 ids

-- each number is below those after it
abbrev pub Rises : List ℕ → Type 0
Rises xs = (i j : ℕ) → i < j → j < length xs → slice_index xs i < slice_index xs j

-- rising numbers with this one among them, or without it
abbrev pub marked : List ℕ → ℕ → Bool → List ℕ
marked xs x there = filter (λ y. nat_lt y x) xs ++ ((if there then x ∷ [] else []) ++ filter (λ y. nat_lt x y) xs)

-- a number stands at a place
pub record IsAt (xs : List ℕ) (x place : ℕ) : Type 0 where
  pub within : place < length xs
  pub is : slice_index xs place ≡ x

-- a number stands nowhere, and would go before the one at a place
pub record IsBefore (xs : List ℕ) (x place : ℕ) : Type 0 where
  pub within : place ≤ length xs
  pub lower : (i : ℕ) → i < place → slice_index xs i < x
  pub higher : (i : ℕ) → place ≤ i → i < length xs → x < slice_index xs i

-- what slots keep: the indices of the filled ones, with room for all
pub record AreListed (ids : List (Option ℕ)) (indices : List ℕ) (room : ℕ) : Type 0 where
  pub filled_are : indices ≡ filled ids
  pub fits : length ids ≤ room
  pub few : length ids < 2 ^ 32
