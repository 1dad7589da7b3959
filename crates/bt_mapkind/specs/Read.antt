-- What a question to a map comes to: a reply, or an errno. The cases are this project's profile of bpftool-map(8).
use Rattle.std.specs.Prelude.{ℕ, ◌+◌, Bool, true, List, length, nat_le, ◌==◌, not, if◌then◌else◌, slice_get, slice_index_or, Option, Some, None, is_some, Result, Ok, Err, map as each}
use Rattle.std.specs.List.{find, filter, enumerate_from}
use Rattle.std.specs.Int.{w32, to_le_bytes}
use Rattle.std.specs.Ordering.{nat_cmp, is_lt}
use Rattle.std.specs.Cmp.Lexicographic.{slice_cmp}
use Rattle.std.specs.FinMap as map
use Rattle.bt_mapkind.specs.declared.attr.MapAttr.{MapAttr}
use Rattle.bt_mapkind.specs.declared.errno.Errno.{Errno}
use Rattle.bt_mapkind.specs.declared.errno.Errno.TheVariants.{ENOENT, EINVAL}
use Rattle.bt_mapkind.specs.declared.request.Query.{Query}
use Rattle.bt_mapkind.specs.declared.request.Query.TheVariants.{Lookup, Next, Item, Peek, Count}
use Rattle.bt_mapkind.specs.declared.request.MapReply.{MapReply}
use Rattle.bt_mapkind.specs.declared.request.MapReply.TheVariants.{Nothing, Found, Value, Key, Link, Count as Counted}
use Rattle.bt_mapkind.specs.Attributes.{is_lpm, is_stack}
use Rattle.bt_mapkind.specs.Contents.{Contents, ByKey, Values, Entries, Items, Slots, Links}
use Rattle.bt_mapkind.specs.Prefix.{address, longest_match}
use Rattle.bt_mapkind.specs.Sizes.{key_fits}
use Rattle.bt_mapkind.specs.Index.{index_of}
use Rattle.bt_mapkind.specs.Exchange.{rear_of}

abbrev pub Read : Type 0
Read = Result MapReply Errno

-- a key has the map's size, if there is one
abbrev pub next_fits : MapAttr → Option (List ℕ) → Bool
next_fits a None = true
next_fits a (Some key) = key_fits a key

-- the first element, or nothing
abbrev pub found : Option (List ℕ × List ℕ) → MapReply
found None = Nothing
found (Some e) = Found e.0 e.1

abbrev pub found_at : List ℕ → Option (List ℕ) → MapReply
found_at key None = Nothing
found_at key (Some value) = Found key value

abbrev pub key_found : Option (List ℕ) → MapReply
key_found None = Nothing
key_found (Some key) = Key key

abbrev pub link_found : Option ℕ → MapReply
link_found None = Nothing
link_found (Some id) = Link id

abbrev pub value_found : Option (List ℕ) → MapReply
value_found None = Nothing
value_found (Some value) = Value value

-- ---- arrays of all three types
-- the key of an index
unfoldable pub key_of_index : ℕ → List ℕ
key_of_index n = to_le_bytes w32 n

-- the index after a key's among so many; the first after none, or after one past the end
abbrev pub next_index : ℕ → Option (List ℕ) → MapReply
next_index count None = if count == 0 then Nothing else Key (key_of_index 0)
next_index count (Some key) =
    if nat_le count (index_of key) then (if count == 0 then Nothing else Key (key_of_index 0)) else
    if nat_le count (index_of key + 1) then Nothing else
    Key (key_of_index (index_of key + 1))

abbrev pub values_read : MapAttr → List (List ℕ) → Query → Read
values_read a vs (Lookup key) =
    if not (key_fits a key) then Err EINVAL else Ok (found_at key (slice_get vs (index_of key)))
values_read a vs (Next key) = if not (next_fits a key) then Err EINVAL else Ok (next_index (length vs) key)
values_read a vs (Item n) = Ok (found_at (key_of_index n) (slice_get vs n))
values_read a vs Peek = Err EINVAL
values_read a vs Count = Ok (Counted (length vs))

-- the indices that hold an id, as keys
abbrev pub filled_keys : List (Option ℕ) → List (List ℕ)
filled_keys ls = each (λ e. key_of_index e.0) (filter (λ e. is_some e.1) (enumerate_from 0 ls))

abbrev pub slots_read : MapAttr → List (Option ℕ) → Query → Read
slots_read a ls (Lookup key) =
    if not (key_fits a key) then Err EINVAL else Ok (link_found (slice_index_or ls (index_of key) None))
slots_read a ls (Next key) = if not (next_fits a key) then Err EINVAL else Ok (next_index (length ls) key)
slots_read a ls (Item n) = Ok (key_found (slice_get (filled_keys ls) n))
slots_read a ls Peek = Err EINVAL
slots_read a ls Count = Ok (Counted (length (filled_keys ls)))

-- ---- maps by key
-- the least key
abbrev pub first_key : {X : Type 0} → ByKey X → MapReply
first_key m = key_found (slice_get (map.keys m) 0)

-- the least key above a key
abbrev pub key_above : {X : Type 0} → ByKey X → List ℕ → MapReply
key_above m key = key_found (find (λ other. is_lt (slice_cmp nat_cmp key other)) (map.keys m))

-- the key after one that is there; after none, or after an absent one, the first
abbrev pub next_key : {X : Type 0} → ByKey X → Option (List ℕ) → MapReply
next_key m None = first_key m
next_key m (Some key) = if map.contains_key m key then key_above m key else first_key m

-- the entry that a key finds: its own, or of an LPM trie that of the longest prefix
abbrev pub entry_found : MapAttr → ByKey (List ℕ) → List ℕ → Option (List ℕ) → MapReply
entry_found a m key None = Nothing
entry_found a m key (Some stored) =
    if is_lpm a.kind then found (longest_match m key) else found_at stored (map.get m stored)

abbrev pub next_address : MapAttr → Option (List ℕ) → Option (List ℕ)
next_address a None = None
next_address a (Some key) = address a key

abbrev pub entries_read : MapAttr → ByKey (List ℕ) → Query → Read
entries_read a m (Lookup key) =
    if not (key_fits a key) then Err EINVAL else Ok (entry_found a m key (address a key))
entries_read a m (Next key) = if not (next_fits a key) then Err EINVAL else Ok (next_key m (next_address a key))
entries_read a m (Item n) = Ok (found (slice_get (map.entries m) n))
entries_read a m Peek = Err EINVAL
entries_read a m Count = Ok (Counted (map.len m))

abbrev pub links_read : MapAttr → ByKey ℕ → Query → Read
links_read a m (Lookup key) = if not (key_fits a key) then Err EINVAL else Ok (link_found (map.get m key))
links_read a m (Next key) = if not (next_fits a key) then Err EINVAL else Ok (next_key m key)
links_read a m (Item n) = Ok (key_found (slice_get (map.keys m) n))
links_read a m Peek = Err EINVAL
links_read a m Count = Ok (Counted (map.len m))

-- ---- a queue or a stack
abbrev pub item_peeked : Option (List ℕ) → Read
item_peeked None = Err ENOENT
item_peeked (Some item) = Ok (Value item)

abbrev pub items_read : MapAttr → List (List ℕ) → Query → Read
items_read a xs (Lookup key) = Err EINVAL
items_read a xs (Next key) = Err EINVAL
items_read a xs (Item n) = Ok (value_found (slice_get xs n))
items_read a xs Peek = item_peeked (if is_stack a.kind then (rear_of true xs).0 else slice_get xs 0)
items_read a xs Count = Ok (Counted (length xs))

-- the table: the answer to a question at a map of these attributes that holds these contents
abbrev pub map_read : MapAttr → Contents → Query → Read
map_read a (Values vs) q = values_read a vs q
map_read a (Entries m) q = entries_read a m q
map_read a (Items xs) q = items_read a xs q
map_read a (Slots ls) q = slots_read a ls q
map_read a (Links m) q = links_read a m q
