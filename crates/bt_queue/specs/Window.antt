-- What contracts see of a ring, and the part of its rows that holds the items.
use Rattle.std.specs.Prelude.{◌≡◌, ◌<◌, ◌≤◌, ◌^◌, ℕ, List, ◌++◌, take, drop, length, All}

-- the items, oldest first; for how many there is room, and how many bytes each has
pub record Kept : Type 0 where
  pub items : List (List ℕ)
  pub capacity : ℕ
  pub size : ℕ

-- n of the rows from k on, around the end
abbrev pub window : {X : Type 0} → ℕ → ℕ → List X → List X
window k n rows = take n (drop k rows ++ take k rows)

-- what a ring keeps: each row has its size, the oldest item lies in a row, and the items are no more than the rows
pub record IsRing (head len size : ℕ) (rows : List (List ℕ)) : Type 0 where
  pub head_within : head < length rows
  pub len_within : len ≤ length rows
  pub rows_within : length rows < 2 ^ 32
  pub sizes : All (λ row. length row ≡ size) rows
  pub small : size ≤ 260
