-- What a map holds, however it is kept (Documentation/bpf/map_array.rst, map_hash.rst, map_lpm_trie.rst,
-- map_queue_stack.rst, map_of_maps.rst).
use Rattle.std.specs.Prelude.{ℕ, List, [], Option, None, replicate}
use Rattle.std.specs.Ordering.{nat_cmp}
use Rattle.std.specs.Cmp.Lexicographic.{slice_cmp}
use Rattle.std.specs.FinMap.{FinMap, empty}
use Rattle.bt_mapkind.specs.declared.attr.MapAttr.{MapAttr}
use Rattle.bt_mapkind.specs.declared.attr.MapType.{MapType}
use Rattle.bt_mapkind.specs.declared.attr.MapType.TheVariants.{Array, Hash, LpmTrie, Queue, Stack, ArrayOfMaps, ProgArray, HashOfMaps}

-- a finite map from the bytes of a key, in their ascending order
abbrev pub ByKey : Type 0 → Type 0
ByKey X = FinMap (slice_cmp nat_cmp) X

-- an array: its values, by index
-- a hash or an LPM trie: the values by key, a prefix being its length's four bytes and its data with the bits past it zero
-- a queue or a stack: its items, oldest first
-- an array of maps or a program array: an id or none, by index
-- a hash of maps: the ids by key
pub data Contents : Type 0 where
  Values : List (List ℕ) → Contents
  Entries : ByKey (List ℕ) → Contents
  Items : List (List ℕ) → Contents
  Slots : List (Option ℕ) → Contents
  Links : ByKey ℕ → Contents

-- what a new map holds
abbrev pub fresh_of_type : MapType → ℕ → ℕ → Contents
fresh_of_type Array size count = Values (replicate count (replicate size 0))
fresh_of_type Hash size count = Entries empty
fresh_of_type LpmTrie size count = Entries empty
fresh_of_type Queue size count = Items []
fresh_of_type Stack size count = Items []
fresh_of_type ArrayOfMaps size count = Slots (replicate count None)
fresh_of_type ProgArray size count = Slots (replicate count None)
fresh_of_type HashOfMaps size count = Links empty

abbrev pub fresh : MapAttr → Contents
fresh a = fresh_of_type a.kind a.value_size a.max_entries
