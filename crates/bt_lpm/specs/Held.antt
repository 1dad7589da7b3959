-- What the index of an LPM trie has.
use Rattle.std.specs.Prelude.{◌≡◌, ℕ, true, List, length, All}
use Rattle.std.specs.List.{list_any}
use Rattle.std.specs.FinMap as map
use Rattle.bt_mapkind.specs.Bytes.{AreBytes}
use Rattle.bt_mapkind.specs.Prefix.{is_same}
use Rattle.map_table.specs.Table.{Kept}
use Rattle.map_trie.specs.Trie.{Prefixes}

-- the prefixes of a trie are the keys of a table's entries, and made of bytes
pub record HasKeys (table : Kept) (trie : Prefixes) : Type 0 where
  pub capacity : trie.capacity ≡ table.capacity
  pub key_size : trie.key_size ≡ table.key_size
  pub count : length trie.stored ≡ map.len table.entries
  pub each : All (λ stored. map.contains_key table.entries stored ≡ true) trie.stored
  pub bytes : All AreBytes trie.stored
  pub back : (stored : List ℕ) → map.contains_key table.entries stored ≡ true → list_any (is_same stored) trie.stored ≡ true
