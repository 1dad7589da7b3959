-- Rows in blocks of 512, each a ring: where a row stands, and what moves of rows leave.
use Rattle.std.specs.Prelude.{◌≡◌, ◌+◌, ◌*◌, ◌/◌, ◌%◌, ◌<◌, ◌≤◌, ℕ, List, length, map, slice_index}
use Rattle.std.specs.List.{range_with_len}

-- where the row at a position stands: in the block of the position, so far after the block's start, round the block's end
abbrev pub slot_of : List ℕ → ℕ → ℕ
slot_of starts place = place / 512 * 512 + (slice_index starts (place / 512) + place) % 512

-- the row at a position
abbrev pub row_at : List ℕ → List ℕ → ℕ → ℕ
row_at starts rows place = slice_index rows (slot_of starts place)

-- so many first rows in the blocks
abbrev pub first_rows : List ℕ → List ℕ → ℕ → List ℕ
first_rows starts rows len = map (row_at starts rows) (range_with_len 0 len)

-- the rows have one ring for each start
abbrev pub AreBlocks : List ℕ → List ℕ → Type 0
AreBlocks starts rows = length rows ≡ length starts * 512

-- one row more from a position on: those before an end stand one position further, and the last of them is handed on
pub record Pushes (old new : ℕ → ℕ) (place end row last : ℕ) : Type 0 where
  pub below : (i : ℕ) → i < place → new i ≡ old i
  pub here : new place ≡ row
  pub further : (i : ℕ) → place ≤ i → i + 1 < end → new (i + 1) ≡ old i
  pub handed : (i : ℕ) → i + 1 ≡ end → old i ≡ last
  pub above : (i : ℕ) → end ≤ i → new i ≡ old i

-- a row moved up from one position to another, and those between down by one
pub record MovesUp (old new : ℕ → ℕ) (from to : ℕ) : Type 0 where
  pub below : (i : ℕ) → i < from → new i ≡ old i
  pub between : (i : ℕ) → from ≤ i → i < to → new i ≡ old (i + 1)
  pub here : new to ≡ old from
  pub above : (i : ℕ) → to < i → new i ≡ old i
