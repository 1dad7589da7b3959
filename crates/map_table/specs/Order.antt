-- Keys in ascending order of their bytes, and the place of a key among them.
use Rattle.std.specs.Prelude.{◌≡◌, ◌<◌, ◌≤◌, ℕ, List, [], length, slice_index_or}
use Rattle.std.specs.declared.cmp.Ordering.{Ordering}
use Rattle.std.specs.declared.cmp.Ordering.TheVariants.{Less}
use Rattle.std.specs.Ordering.{nat_cmp}
use Rattle.std.specs.Cmp.Lexicographic.{slice_cmp}

abbrev pub key_cmp : List ℕ → List ℕ → Ordering
key_cmp = slice_cmp nat_cmp

-- each key is below those after it
abbrev pub Rises : List (List ℕ) → Type 0
Rises keys = (i j : ℕ) → i < j → j < length keys → key_cmp (slice_index_or keys i []) (slice_index_or keys j []) ≡ Less

-- a key stands at a place
pub record IsPlace (keys : List (List ℕ)) (key : List ℕ) (place : ℕ) : Type 0 where
  pub within : place < length keys
  pub is : slice_index_or keys place [] ≡ key

-- a key stands nowhere, and would go before the key at a place: those before it are lower, and the others higher
pub record IsGap (keys : List (List ℕ)) (key : List ℕ) (place : ℕ) : Type 0 where
  pub within : place ≤ length keys
  pub lower : (i : ℕ) → i < place → key_cmp (slice_index_or keys i []) key ≡ Less
  pub higher : (i : ℕ) → place ≤ i → i < length keys → key_cmp key (slice_index_or keys i []) ≡ Less
