-- The prefixes of a trie are those of a table still if another value is put under one of them.
use Rattle.std.specs.Prelude.{◌≡◌, ℕ, true, List}
use Rattle.std.specs.FinMap as map
use Rattle.std.proofs.Common.{sym, ◌∙◌, get_or}
use Rattle.map_table.specs.Table.{Kept}
use Rattle.map_table.proofs.KeptLemmas.{same_keys, same_len}
use Rattle.map_trie.specs.Trie.{Prefixes}
use Rattle.bt_lpm.specs.Held.{HasKeys}

pub keys_stay : (table : Kept) (trie : Prefixes) (stored value : List ℕ) → map.contains_key table.entries stored ≡ true → HasKeys table trie → HasKeys (record table { entries = map.insert table.entries stored value }) trie
keys_stay table trie stored value there h = record {
  capacity = h.capacity;
  key_size = h.key_size;
  count = h.count ∙ sym (same_len table.entries stored value there);
  each = λ i d within. same_keys table.entries stored value (get_or trie.stored i d) there ∙ h.each i d within;
  bytes = h.bytes;
  back = λ other has. h.back other (sym (same_keys table.entries stored value other there) ∙ has);
}
