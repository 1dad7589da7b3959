-- The rows of a block: each so many bytes, one after another.
use Rattle.std.specs.Prelude.{ℕ, ◌*◌, List, map, take, drop}
use Rattle.std.specs.List.{range_with_len}

-- the row at an index
abbrev pub row_of : ℕ → List ℕ → ℕ → List ℕ
row_of size bytes index = take size (drop (index * size) bytes)

abbrev pub rows : ℕ → ℕ → List ℕ → List (List ℕ)
rows size count bytes = map (row_of size bytes) (range_with_len 0 count)
