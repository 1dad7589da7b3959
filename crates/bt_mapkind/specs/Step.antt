-- What an operation makes of a map: its new contents, a reply and the exchange that takes it back, or an errno.
-- The cases and their order are this project's profile of bpf(2) and bpftool-map(8).
use Rattle.std.specs.Prelude.{ℕ, List, [], ◌∷◌, ◌++◌, length, ◌==◌, nat_lt, nat_le, Bool, true, false, not, if◌then◌else◌, slice_set, slice_index_or, Option, Some, None, Result, Ok, Err}
use Rattle.std.specs.FinMap as map
use Rattle.bt_mapkind.specs.declared.attr.MapAttr.{MapAttr}
use Rattle.bt_mapkind.specs.declared.atomic.AtomicOp.{AtomicOp}
use Rattle.bt_mapkind.specs.declared.atomic.AtomicSize.{AtomicSize}
use Rattle.bt_mapkind.specs.declared.errno.Errno.{Errno}
use Rattle.bt_mapkind.specs.declared.errno.Errno.TheVariants.{ENOENT, E2BIG, EEXIST, EINVAL, ENOSPC}
use Rattle.bt_mapkind.specs.declared.request.MapOp.{MapOp}
use Rattle.bt_mapkind.specs.declared.request.MapOp.TheVariants.{Update, Delete, Push, Pop, Store, Atomic, SetLink}
use Rattle.bt_mapkind.specs.declared.request.MapReply.{MapReply}
use Rattle.bt_mapkind.specs.declared.request.MapReply.TheVariants.{Done, Value}
use Rattle.bt_mapkind.specs.declared.exchange.Back.{Back}
use Rattle.bt_mapkind.specs.declared.exchange.Back.TheVariants.{Key, Ends, Link}
use Rattle.bt_mapkind.specs.Attributes.{is_lpm, is_stack}
use Rattle.bt_mapkind.specs.Contents.{Contents, ByKey, Values, Entries, Items, Slots, Links}
use Rattle.bt_mapkind.specs.Prefix.{address}
use Rattle.bt_mapkind.specs.Sizes.{pair_fits, key_fits, value_fits, range_fits}
use Rattle.bt_mapkind.specs.Index.{index_of}
use Rattle.bt_mapkind.specs.Atomic.{overwritten, part_of, size_in_bytes, bytes_after, fetches}
use Rattle.bt_mapkind.specs.Exchange.{rear_of}

-- the flags of an update: 0 for any, 1 for noexist, 2 for exist
abbrev pub is_flag : ℕ → Bool
is_flag flag = nat_le flag 2

-- what an accepted operation leaves, answers, and is taken back by
pub record Changed : Type 0 where
  pub contents : Contents
  pub reply : MapReply
  pub back : Back

abbrev pub Step : Type 0
Step = Result Changed Errno

abbrev pub goes : Contents → MapReply → Back → Step
goes contents reply back = Ok (record { contents = contents; reply = reply; back = back })

-- a step, unless something stands against it
abbrev pub unless : Option Errno → Step → Step
unless (Some errno) step = Err errno
unless None step = step

-- what a fetching instruction answers, or another
abbrev pub atomic_reply : AtomicOp → List ℕ → MapReply
atomic_reply op before = if fetches op then Value before else Done

-- ---- an array
-- another value at the index of a key
abbrev pub value_set : List (List ℕ) → List ℕ → List ℕ → MapReply → Step
value_set vs key value reply =
    goes (Values (slice_set vs (index_of key) value)) reply (Key key (Some (slice_index_or vs (index_of key) [])))

abbrev pub is_past : {X : Type 0} → List X → List ℕ → Bool
is_past xs key = nat_le (length xs) (index_of key)

-- why a part of a value cannot be written
abbrev pub part_fault : MapAttr → List (List ℕ) → List ℕ → ℕ → ℕ → Option Errno
part_fault a vs key offset size =
    if not (key_fits a key) then Some EINVAL else
    if is_past vs key then Some ENOENT else
    if not (range_fits a offset size) then Some EINVAL else
    None

abbrev pub values_step : MapAttr → List (List ℕ) → MapOp → Step
values_step a vs (Update key value flag) =
    if not (is_flag flag) then Err EINVAL else
    if not (pair_fits a key value) then Err EINVAL else
    if is_past vs key then Err E2BIG else
    if flag == 1 then Err EEXIST else
    value_set vs key value Done
values_step a vs (Delete key) = Err EINVAL
values_step a vs (Push value flag) = Err EINVAL
values_step a vs Pop = Err EINVAL
values_step a vs (Store key offset bytes) =
    let old = slice_index_or vs (index_of key) [] in
    unless (part_fault a vs key offset (length bytes)) (value_set vs key (overwritten old offset bytes) Done)
values_step a vs (Atomic key offset size op operand) =
    let old = slice_index_or vs (index_of key) [] in
    let before = part_of old offset (size_in_bytes size) in
    unless (part_fault a vs key offset (size_in_bytes size))
    (value_set vs key (overwritten old offset (bytes_after op size operand before)) (atomic_reply op before))
values_step a vs (SetLink key id flag) = Err EINVAL

-- ---- a hash or an LPM trie
abbrev pub full_errno : MapAttr → Errno
full_errno a = if is_lpm a.kind then ENOSPC else E2BIG

-- another value under a key that may be there
abbrev pub entry_set : ByKey (List ℕ) → List ℕ → List ℕ → MapReply → Step
entry_set m key value reply = goes (Entries (map.insert m key value)) reply (Key key (map.get m key))

abbrev pub entry_updated : MapAttr → ByKey (List ℕ) → Option (List ℕ) → List ℕ → ℕ → Step
entry_updated a m None value flag = Err EINVAL
entry_updated a m (Some key) value flag =
    if map.contains_key m key then (if flag == 1 then Err EEXIST else entry_set m key value Done) else
    if flag == 2 then Err ENOENT else
    if nat_le a.max_entries (map.len m) then Err (full_errno a) else
    entry_set m key value Done

abbrev pub entry_deleted : ByKey (List ℕ) → Option (List ℕ) → Step
entry_deleted m None = Err EINVAL
entry_deleted m (Some key) =
    if map.contains_key m key then goes (Entries (map.remove m key)) Done (Key key (map.get m key)) else
    Err ENOENT

-- the entry at an address
abbrev pub with_key : List ℕ → Option (List ℕ) → Option (List ℕ × List ℕ)
with_key key None = None
with_key key (Some value) = Some (key, value)

abbrev pub entry_at : ByKey (List ℕ) → Option (List ℕ) → Option (List ℕ × List ℕ)
entry_at m None = None
entry_at m (Some key) = with_key key (map.get m key)

abbrev pub entry_stored : MapAttr → ByKey (List ℕ) → Option (List ℕ × List ℕ) → ℕ → List ℕ → Step
entry_stored a m None offset bytes = Err ENOENT
entry_stored a m (Some e) offset bytes =
    if not (range_fits a offset (length bytes)) then Err EINVAL else
    entry_set m e.0 (overwritten e.1 offset bytes) Done

abbrev pub entry_combined : MapAttr → ByKey (List ℕ) → Option (List ℕ × List ℕ) → ℕ → AtomicSize → AtomicOp → ℕ → Step
entry_combined a m None offset size op operand = Err ENOENT
entry_combined a m (Some e) offset size op operand =
    if not (range_fits a offset (size_in_bytes size)) then Err EINVAL else
    let before = part_of e.1 offset (size_in_bytes size) in
    entry_set m e.0 (overwritten e.1 offset (bytes_after op size operand before)) (atomic_reply op before)

abbrev pub entries_step : MapAttr → ByKey (List ℕ) → MapOp → Step
entries_step a m (Update key value flag) =
    if not (is_flag flag) then Err EINVAL else
    if not (pair_fits a key value) then Err EINVAL else
    entry_updated a m (address a key) value flag
entries_step a m (Delete key) = if not (key_fits a key) then Err EINVAL else entry_deleted m (address a key)
entries_step a m (Push value flag) = Err EINVAL
entries_step a m Pop = Err EINVAL
entries_step a m (Store key offset bytes) =
    if not (key_fits a key) then Err EINVAL else entry_stored a m (entry_at m (address a key)) offset bytes
entries_step a m (Atomic key offset size op operand) =
    if not (key_fits a key) then Err EINVAL else
    entry_combined a m (entry_at m (address a key)) offset size op operand
entries_step a m (SetLink key id flag) = Err EINVAL

-- ---- a queue or a stack
-- an item put at the rear, if it takes the place of the oldest if there is no room
abbrev pub item_pushed : List (List ℕ) → List ℕ → Step
item_pushed xs value = goes (Items (xs ++ value ∷ [])) Done (Ends false true None None)

abbrev pub oldest_replaced : List (List ℕ) → List ℕ → Step
oldest_replaced [] value = Err E2BIG
oldest_replaced (x ∷ xs) value = goes (Items (xs ++ value ∷ [])) Done (Ends false true (Some x) None)

abbrev pub oldest_popped : List (List ℕ) → Step
oldest_popped [] = Err ENOENT
oldest_popped (x ∷ xs) = goes (Items xs) (Value x) (Ends false false (Some x) None)

-- the newest item taken from the others, if there is one
abbrev pub newest_taken : Option (List ℕ) → List (List ℕ) → Step
newest_taken None others = Err ENOENT
newest_taken (Some item) others = goes (Items others) (Value item) (Ends false false None (Some item))

abbrev pub newest_popped : List (List ℕ) → Step
newest_popped xs = newest_taken (rear_of true xs).0 (rear_of true xs).1

abbrev pub items_step : MapAttr → List (List ℕ) → MapOp → Step
items_step a xs (Update key value flag) = Err EINVAL
items_step a xs (Delete key) = Err EINVAL
items_step a xs (Push value flag) =
    if not (is_flag flag) then Err EINVAL else
    if not (value_fits a value) then Err EINVAL else
    if flag == 1 then Err EINVAL else
    if nat_lt (length xs) a.max_entries then item_pushed xs value else
    if flag == 2 then oldest_replaced xs value else
    Err E2BIG
items_step a xs Pop = if is_stack a.kind then newest_popped xs else oldest_popped xs
items_step a xs (Store key offset bytes) = Err EINVAL
items_step a xs (Atomic key offset size op operand) = Err EINVAL
items_step a xs (SetLink key id flag) = Err EINVAL

-- ---- an array of maps or a program array
abbrev pub slot_set : List (Option ℕ) → List ℕ → Option ℕ → Step
slot_set ls key id =
    goes (Slots (slice_set ls (index_of key) id)) Done (Link key (slice_index_or ls (index_of key) None))

abbrev pub slot_cleared : List (Option ℕ) → List ℕ → Option ℕ → Step
slot_cleared ls key None = Err ENOENT
slot_cleared ls key (Some id) = slot_set ls key None

abbrev pub slots_step : MapAttr → List (Option ℕ) → MapOp → Step
slots_step a ls (Update key value flag) = Err EINVAL
slots_step a ls (Delete key) =
    if not (key_fits a key) then Err EINVAL else
    if is_past ls key then Err E2BIG else
    slot_cleared ls key (slice_index_or ls (index_of key) None)
slots_step a ls (Push value flag) = Err EINVAL
slots_step a ls Pop = Err EINVAL
slots_step a ls (Store key offset bytes) = Err EINVAL
slots_step a ls (Atomic key offset size op operand) = Err EINVAL
slots_step a ls (SetLink key id flag) =
    if not (key_fits a key) then Err EINVAL else
    if not (flag == 0) then Err EINVAL else
    if is_past ls key then Err E2BIG else
    slot_set ls key (Some id)

-- ---- a hash of maps
abbrev pub links_step : MapAttr → ByKey ℕ → MapOp → Step
links_step a m (Update key value flag) = Err EINVAL
links_step a m (Delete key) =
    if not (key_fits a key) then Err EINVAL else
    if map.contains_key m key then goes (Links (map.remove m key)) Done (Link key (map.get m key)) else
    Err ENOENT
links_step a m (Push value flag) = Err EINVAL
links_step a m Pop = Err EINVAL
links_step a m (Store key offset bytes) = Err EINVAL
links_step a m (Atomic key offset size op operand) = Err EINVAL
links_step a m (SetLink key id flag) =
    if not (is_flag flag) then Err EINVAL else
    if not (key_fits a key) then Err EINVAL else
    if map.contains_key m key then
    (if flag == 1 then Err EEXIST else goes (Links (map.insert m key id)) Done (Link key (map.get m key))) else
    if flag == 2 then Err ENOENT else
    if nat_le a.max_entries (map.len m) then Err E2BIG else
    goes (Links (map.insert m key id)) Done (Link key (map.get m key))

-- the table: what an operation makes of a map of these attributes that holds these contents
abbrev pub map_step : MapAttr → Contents → MapOp → Step
map_step a (Values vs) op = values_step a vs op
map_step a (Entries m) op = entries_step a m op
map_step a (Items xs) op = items_step a xs op
map_step a (Slots ls) op = slots_step a ls op
map_step a (Links m) op = links_step a m op
