-- The bucket of a key: FNV-1a of its bytes, of 32 bits (https://datatracker.ietf.org/doc/draft-eastlake-fnv), among a
-- power of two of buckets.
use Rattle.std.specs.Prelude.{◌-◌, ◌*◌, ◌%◌, ℕ, List, bit_and, bit_xor}
use Rattle.std.specs.List.{fold}

abbrev pub mixed : ℕ → ℕ → ℕ
mixed hash byte = (bit_xor hash byte * 16777619) % 4294967296

unfoldable pub hash_of : List ℕ → ℕ
hash_of key = fold mixed 2166136261 key

unfoldable pub bucket_of : ℕ → List ℕ → ℕ
bucket_of count key = bit_and (hash_of key) (count - 1)
