-- Lists of ids.
use Rattle.std.specs.Prelude.{ℕ, ◌≤◌, ◌<◌, ◌==◌, Bool, List, length, slice_index}
use Rattle.std.specs.List.{list_any}

abbrev pub Ascends : List ℕ → Type 0
Ascends ids = (i j : ℕ) → i ≤ j → j < length ids → slice_index ids i ≤ slice_index ids j

abbrev pub is_among : List ℕ → ℕ → Bool
is_among ids id = list_any (λ other. other == id) ids
