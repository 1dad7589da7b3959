-- Finite maps by id: what each function of the ids and their values leaves.
use Rattle.std.specs.Prelude.{ℕ, List, [], ◌∷◌, map as each, Option, Some, None}
use Rattle.std.specs.FinMap as map
pub use Rattle.bt_objects.specs.Boxes.{ById}

-- what a function makes of each value and its id
abbrev pub mapped : {X Y : Type 0} → (ℕ → X → Y) → ById X → ById Y
mapped f m = map.from_sorted (each (λ e. (e.0, f e.0 e.1)) (map.entries m))

-- a finite map with a value under an id, or with none there
abbrev pub put_at : {X : Type 0} → ById X → ℕ → Option X → ById X
put_at m id None = map.remove m id
put_at m id (Some x) = map.insert m id x

-- what a function of the ids makes of the values in a table, if it makes something
abbrev pub laid : {X Y : Type 0} → (ℕ → Option X → Option Y) → List (ℕ × Option X) → ById Y
laid f [] = map.empty
laid f (e ∷ es) = put_at (laid f es) e.0 (f e.0 e.1)
