-- Bytes as numbers of 1, 2, 4 or 8 bytes, the lowest byte first.
use Rattle.std.specs.Prelude.{ℕ, ◌+◌, ◌%◌, ◌^◌, nat_le, Bool, List, ◌++◌, length, take, drop, slice_set}
use Rattle.byteorder.specs.Endian.{little_number, little_bytes}
use Rattle.bt_insn.specs.LoadStore.{size_bytes}
use Rattle.bt_insn.specs.declared.load_store.Size.{Size}
use Rattle.bt_insn.specs.declared.load_store.Size.TheVariants.{Byte, Half, Word, DoubleWord}

-- so many bytes from a position on lie in a region
abbrev pub lie_within : ℕ → ℕ → ℕ → Bool
lie_within region position count = nat_le (position + count) region

unfoldable pub number_at : List ℕ → ℕ → Size → ℕ
number_at bytes start size = little_number (size_bytes size) (drop start bytes)

-- bytes put over those from a position on
unfoldable pub overwritten : List ℕ → ℕ → List ℕ → List ℕ
overwritten bytes start new = take start bytes ++ (new ++ drop (length new) (drop start bytes))

-- the lowest bytes of a number put over those from a position on
abbrev pub pasted : List ℕ → ℕ → ℕ → ℕ → List ℕ
pasted bytes start n value = take start bytes ++ (little_bytes n (value % 256 ^ n) ++ drop n (drop start bytes))

unfoldable pub with_number : List ℕ → ℕ → Size → ℕ → List ℕ
with_number bytes start Byte value = slice_set bytes start (value % 256)
with_number bytes start Half value = pasted bytes start 2 value
with_number bytes start Word value = pasted bytes start 4 value
with_number bytes start DoubleWord value = pasted bytes start 8 value
