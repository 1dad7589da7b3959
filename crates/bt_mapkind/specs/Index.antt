-- The numbers that bytes are, the lowest first.
use Rattle.std.specs.Prelude.{ℕ, List}
use Rattle.std.specs.Int.{w32, w64, from_le_bytes}

-- of a key of four bytes (Documentation/bpf/map_array.rst)
unfoldable pub index_of : List ℕ → ℕ
index_of key = from_le_bytes w32 key

-- of at most eight bytes; those that are not there count as zero
unfoldable pub number_of : List ℕ → ℕ
number_of bytes = from_le_bytes w64 bytes
