-- Values by their kinds, with the bytes of keys in a table beside them.
use Rattle.std.specs.Prelude.{◌≡◌, ℕ, ◌<◌, List, [], ◌∷◌, take, slice_index_or, Option, Some, None}
use Rattle.std.specs.Int.{bit_at}
use Rattle.program_machine.specs.Held.{Held, Number, held}
use Rattle.program_machine.specs.declared.key.Key.{Key}
use Rattle.program_machine.specs.declared.kind.Kind.{Kind}

abbrev pub bytes_of : Key → List ℕ
bytes_of key = take key.size key.bytes

abbrev pub held_by : Kind → Key → Held
held_by kind key = held kind (bytes_of key)

abbrev pub kept_by : Option Kind → Key → Option Held
kept_by None key = None
kept_by (Some kind) key = Some (held_by kind key)

-- what each of one list and its like in the other make
unfoldable pub paired : {A B C : Type 0} → (A → B → C) → List A → List B → List C
paired f [] ys = []
paired f (a ∷ xs) [] = []
paired f (a ∷ xs) (b ∷ ys) = f a b ∷ paired f xs ys

-- what stands at a place
abbrev pub held_at : List Held → ℕ → Held
held_at values place = slice_index_or values place (Number 0)

abbrev pub kept_in : List (Option Held) → ℕ → Option Held
kept_in values place = slice_index_or values place None

-- 1 if a word holds a value
abbrev pub bit_of : Option Kind → ℕ
bit_of None = 0
bit_of (Some kind) = 1

-- the bits of a mask tell which of 64 words hold values
abbrev pub IsMask : ℕ → List (Option Kind) → Type 0
IsMask mask kinds = (word : ℕ) → word < 64 → bit_at mask word ≡ bit_of (slice_index_or kinds word None)
