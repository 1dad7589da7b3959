-- The prefixes of a key by their lengths.
use Rattle.std.specs.Prelude.{ℕ, List, ◌++◌}
use Rattle.std.specs.Int.{w32, to_le_bytes}
use Rattle.bt_mapkind.specs.Prefix.{masked, prefix_data}

-- the prefix of a key that has so many bits, as it is stored
unfoldable pub prefix_of : List ℕ → ℕ → List ℕ
prefix_of key bits = to_le_bytes w32 bits ++ masked bits (prefix_data key)
