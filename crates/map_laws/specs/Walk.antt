-- The walk over a map's keys by `next`, and the keys that a dump lists.
use Rattle.std.specs.Prelude.{◌≡◌, ◌<◌, ℕ, List, [], ◌∷◌, Option, None, Some, Ok, Err, map as each}
use Rattle.std.specs.List.{enumerate_from}
use Rattle.std.specs.Ordering.{nat_cmp}
use Rattle.std.specs.declared.cmp.Ordering.TheVariants.{Less}
use Rattle.std.specs.Cmp.Lexicographic.{slice_cmp}
use Rattle.std.specs.FinMap as map
use Rattle.bt_mapkind.specs.declared.attr.MapAttr.{MapAttr}
use Rattle.bt_mapkind.specs.declared.request.Query.TheVariants.{Next}
use Rattle.bt_mapkind.specs.declared.request.MapReply.{MapReply}
use Rattle.bt_mapkind.specs.declared.request.MapReply.TheVariants.{Nothing, Found, Key}
use Rattle.bt_mapkind.specs.Contents.{Contents, Values, Entries, Items, Slots, Links}
use Rattle.bt_mapkind.specs.Index.{index_of}
use Rattle.bt_mapkind.specs.Read.{Read, key_of_index, filled_keys, map_read}

-- `next` gives these keys one after another, from a key or from none, and then nothing
abbrev pub Walks : MapAttr → Contents → Option (List ℕ) → List (List ℕ) → Type 0
Walks a c from [] = map_read a c (Next from) ≡ Ok Nothing
Walks a c from (key ∷ keys) = (map_read a c (Next from) ≡ Ok (Key key)) × Walks a c (Some key) keys

abbrev pub index_keys : {X : Type 0} → List X → List (List ℕ)
index_keys xs = each (λ e. key_of_index e.0) (enumerate_from 0 xs)

-- the keys of a map, each once: indices from 0 on, or stored keys as they ascend
abbrev pub keys_of : Contents → List (List ℕ)
keys_of (Values vs) = index_keys vs
keys_of (Entries m) = map.keys m
keys_of (Items xs) = []
keys_of (Slots ls) = index_keys ls
keys_of (Links m) = map.keys m

-- one key comes before another: by its index, or by its bytes
abbrev pub ComesBefore : Contents → List ℕ → List ℕ → Type 0
ComesBefore (Values vs) key other = index_of key < index_of other
ComesBefore (Entries m) key other = slice_cmp nat_cmp key other ≡ Less
ComesBefore (Items xs) key other = ⊥
ComesBefore (Slots ls) key other = index_of key < index_of other
ComesBefore (Links m) key other = slice_cmp nat_cmp key other ≡ Less

-- those that a dump lists: of a map of ids by index, where an id stands
abbrev pub dumped_keys : Contents → List (List ℕ)
dumped_keys (Values vs) = keys_of (Values vs)
dumped_keys (Entries m) = keys_of (Entries m)
dumped_keys (Items xs) = []
dumped_keys (Slots ls) = filled_keys ls
dumped_keys (Links m) = keys_of (Links m)

-- the key that an answer names
abbrev pub key_in_reply : MapReply → Option (List ℕ)
key_in_reply (Found key value) = Some key
key_in_reply (Key key) = Some key
key_in_reply reply = None

abbrev pub key_named : Read → Option (List ℕ)
key_named (Ok reply) = key_in_reply reply
key_named (Err errno) = None
