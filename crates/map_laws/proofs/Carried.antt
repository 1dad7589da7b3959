-- An operation after an exchange at another place.
use Rattle.std.proofs.Common.{◌≡◌, ◌≢◌, ℕ, Bool, true, false, not, ◌==◌, if◌then◌else◌, List, [], length, get_or, set, Option, Some, None, is_some, Err, nat_le, refl, ap, sym, ◌∙◌, length-set}
use Rattle.std.proofs.lemmas.List.{get_or-set_other}
use Rattle.std.specs.FinMap as map
use Rattle.bt_mapkind.specs.declared.attr.MapAttr.{MapAttr}
use Rattle.bt_mapkind.specs.declared.errno.Errno.{Errno}
use Rattle.bt_mapkind.specs.declared.errno.Errno.TheVariants.{ENOENT, E2BIG, EEXIST, EINVAL}
use Rattle.bt_mapkind.specs.declared.atomic.AtomicOp.{AtomicOp}
use Rattle.bt_mapkind.specs.declared.atomic.AtomicSize.{AtomicSize}
use Rattle.bt_mapkind.specs.declared.exchange.Back.{Back}
use Rattle.bt_mapkind.specs.declared.exchange.Back.TheVariants.{Key, Ends, Link}
use Rattle.bt_mapkind.specs.declared.request.MapOp.{MapOp}
use Rattle.bt_mapkind.specs.declared.request.MapOp.TheVariants.{Update, Delete, Push, Pop, Store, Atomic, SetLink}
use Rattle.bt_mapkind.specs.declared.request.MapReply.{MapReply}
use Rattle.bt_mapkind.specs.declared.request.MapReply.TheVariants.{Done}
use Rattle.bt_mapkind.specs.Contents.{Contents, ByKey, Values, Entries, Items, Slots, Links}
use Rattle.bt_mapkind.specs.Index.{index_of}
use Rattle.bt_mapkind.specs.Sizes.{key_fits, pair_fits, range_fits}
use Rattle.bt_mapkind.specs.Prefix.{address}
use Rattle.bt_mapkind.specs.Atomic.{overwritten, part_of, size_in_bytes, bytes_after}
use Rattle.bt_mapkind.specs.Step.{Step, goes, unless, is_flag, is_past, part_fault, full_errno, value_set, atomic_reply, entry_set, entry_updated, entry_deleted, with_key, entry_at, entry_stored, entry_combined, slot_set, slot_cleared, values_step, entries_step, slots_step, links_step}
use Rattle.bt_mapkind.specs.Exchange.{exchanged, put_under}
use Rattle.bt_mapkind.specs.Well.{Shape, OfValues, OfEntries, OfItems, OfSlots, OfLinks, shape_of_type}
use Rattle.map_laws.specs.Place.{AtIndex, Whole, place_of, place_in, place_at, place_of_op, lacks, adds_key, is_full, then_turned}
use Rattle.map_laws.specs.Laws.{EitherOrder, OperationApart}
use Rattle.bt_mapkind.proofs.Stays.{no_fit}
use Rattle.map_laws.proofs.Apart.{get-put_under_other, values_apart, entries_apart, slots_apart, links_apart, place_of_items}
use Rattle.map_laws.proofs.AtPlaces.{plain_address, values_no_entries, items_no_entries, slots_no_entries, links_no_entries}

-- ---- steps that differ by an exchange that is turned in what they leave
pub or_fails : (b : Back) (test : Bool) (errno : Errno) (step after : Step) → after ≡ then_turned step b → (if test then Err errno else after) ≡ then_turned (if test then Err errno else step) b
or_fails b true errno step after h = refl
or_fails b false errno step after h = h

either : (b : Back) (test : Bool) (step after other later : Step) → after ≡ then_turned step b → later ≡ then_turned other b → (if test then after else later) ≡ then_turned (if test then step else other) b
either b true step after other later h g = h
either b false step after other later h g = g

unless_fails : (b : Back) (fault : Option Errno) (step after : Step) → after ≡ then_turned step b → unless fault after ≡ then_turned (unless fault step) b
unless_fails b None step after h = h
unless_fails b (Some errno) step after h = refl

-- an accepted step is a turning that does not meet the exchange
goes_after : (c : Contents) (b other : Back) (reply : MapReply) → EitherOrder c b other
    → goes (exchanged (exchanged c b).0 other).0 reply (exchanged (exchanged c b).0 other).1 ≡ then_turned (goes (exchanged c other).0 reply (exchanged c other).1) b
goes_after c b other reply h = λ i. goes (h.contents i) reply (h.second i)

-- ---- an array
record OtherIndex (k key : List ℕ) : Type 0 where
  apart : index_of k ≢ index_of key

value_set_after : (vs : List (List ℕ)) (k v key value : List ℕ) (reply : MapReply) → OtherIndex k key → value_set (set vs (index_of k) v) key value reply ≡ then_turned (value_set vs key value reply) (Key k (Some v))
value_set_after vs k v key value reply o = goes_after (Values vs) (Key k (Some v)) (Key key (Some value)) reply (values_apart vs k key v value o.apart)

past_after : {X : Type 0} (xs : List X) (k key : List ℕ) (x : X) → is_past (set xs (index_of k) x) key ≡ is_past xs key
past_after xs k key x = ap (λ n. nat_le n (index_of key)) (length-set xs (index_of k) x)

fault_after : (a : MapAttr) (vs : List (List ℕ)) (k v key : List ℕ) (offset size : ℕ) → part_fault a (set vs (index_of k) v) key offset size ≡ part_fault a vs key offset size
fault_after a vs k v key offset size =
    ap (λ past. if not (key_fits a key) then Some EINVAL else if past then Some ENOENT else if not (range_fits a offset size) then Some EINVAL else None) (past_after vs k key v)

old_after : {X : Type 0} (xs : List X) (k key : List ℕ) (x d : X) → OtherIndex k key → get_or (set xs (index_of k) x) (index_of key) d ≡ get_or xs (index_of key) d
old_after xs k key x d o = get_or-set_other xs (index_of k) (index_of key) x d (λ e. o.apart (sym e))

-- a write of what a function makes of the old value
part_after : (a : MapAttr) (vs : List (List ℕ)) (k v key : List ℕ) (offset size : ℕ) (made : List ℕ → List ℕ) (reply : List ℕ → MapReply) → OtherIndex k key
    → (let old = get_or (set vs (index_of k) v) (index_of key) [] in unless (part_fault a (set vs (index_of k) v) key offset size) (value_set (set vs (index_of k) v) key (made old) (reply old)))
    ≡ then_turned (let old = get_or vs (index_of key) [] in unless (part_fault a vs key offset size) (value_set vs key (made old) (reply old))) (Key k (Some v))
part_after a vs k v key offset size made reply o =
    ap (λ old. unless (part_fault a (set vs (index_of k) v) key offset size) (value_set (set vs (index_of k) v) key (made old) (reply old))) (old_after vs k key v [] o)
    ∙ ap (λ fault. unless fault (value_set (set vs (index_of k) v) key (made (get_or vs (index_of key) [])) (reply (get_or vs (index_of key) [])))) (fault_after a vs k v key offset size)
    ∙ unless_fails (Key k (Some v)) (part_fault a vs key offset size) _ _ (value_set_after vs k v key _ _ o)

-- a step after a test whose answer is the same
or_fails_alike : (b : Back) (test alike : Bool) (errno : Errno) (step after : Step) → alike ≡ test → after ≡ then_turned step b → (if alike then Err errno else after) ≡ then_turned (if test then Err errno else step) b
or_fails_alike b test alike errno step after same h = ap (λ t. if t then Err errno else after) same ∙ or_fails b test errno step after h

values_after : (a : MapAttr) (vs : List (List ℕ)) (k v : List ℕ) (op : MapOp) → ((key : List ℕ) → place_of_op a op ≡ place_at a (address a key) → OtherIndex k key) → values_step a (set vs (index_of k) v) op ≡ then_turned (values_step a vs op) (Key k (Some v))
values_after a vs k v (Update key value flag) o =
    or_fails _ (not (is_flag flag)) EINVAL _ _ (or_fails _ (not (pair_fits a key value)) EINVAL _ _
    (or_fails_alike _ (is_past vs key) _ E2BIG _ _ (past_after vs k key v) (or_fails _ (flag == 1) EEXIST _ _ (value_set_after vs k v key value Done (o key refl)))))
values_after a vs k v (Delete key) o = refl
values_after a vs k v (Push value flag) o = refl
values_after a vs k v Pop o = refl
values_after a vs k v (Store key offset bytes) o =
    part_after a vs k v key offset (length bytes) (λ old. overwritten old offset bytes) (λ old. Done) (o key refl)
values_after a vs k v (Atomic key offset size op operand) o =
    part_after a vs k v key offset (size_in_bytes size) (λ old. overwritten old offset (bytes_after op size operand (part_of old offset (size_in_bytes size))))
    (λ old. atomic_reply op (part_of old offset (size_in_bytes size))) (o key refl)
values_after a vs k v (SetLink key id flag) o = refl

-- ---- a hash or an LPM trie
entry_set_after : (m : ByKey (List ℕ)) (k : List ℕ) (x : Option (List ℕ)) (key value : List ℕ) (reply : MapReply) → k ≢ key → entry_set (put_under m k x) key value reply ≡ then_turned (entry_set m key value reply) (Key k x)
entry_set_after m k x key value reply apart = goes_after (Entries m) (Key k x) (Key key (Some value)) reply (entries_apart m k key x (Some value) apart)

there_after : {X : Type 0} (m : ByKey X) (k : List ℕ) (x : Option X) (key : List ℕ) → k ≢ key → map.contains_key (put_under m k x) key ≡ map.contains_key m key
there_after m k x key apart = ap is_some (get-put_under_other m k key x apart)

-- a map is as full as before, if an absent key would be added
abbrev AsFull : {X : Type 0} → MapAttr → ByKey X → List ℕ → Option X → List ℕ → Type 0
AsFull a m k x key = map.contains_key m key ≡ false → nat_le a.max_entries (map.len (put_under m k x)) ≡ nat_le a.max_entries (map.len m)

updated_after : (a : MapAttr) (m : ByKey (List ℕ)) (k : List ℕ) (x : Option (List ℕ)) (key value : List ℕ) (flag : ℕ) → k ≢ key → AsFull a m k x key
    → entry_updated a (put_under m k x) (Some key) value flag ≡ then_turned (entry_updated a m (Some key) value flag) (Key k x)
updated_after a m k x key value flag apart full =
    ap (λ there. if there then (if flag == 1 then Err EEXIST else after) else if flag == 2 then Err ENOENT else if nat_le a.max_entries (map.len (put_under m k x)) then Err (full_errno a) else after) (there_after m k x key apart)
    ∙ cases (map.contains_key m key) refl
  where
    step : Step
    step = entry_set m key value Done

    after : Step
    after = entry_set (put_under m k x) key value Done

    same : after ≡ then_turned step (Key k x)
    same = entry_set_after m k x key value Done apart

    cases : (there : Bool) → map.contains_key m key ≡ there
        → (if there then (if flag == 1 then Err EEXIST else after) else if flag == 2 then Err ENOENT else if nat_le a.max_entries (map.len (put_under m k x)) then Err (full_errno a) else after)
        ≡ then_turned (if there then (if flag == 1 then Err EEXIST else step) else if flag == 2 then Err ENOENT else if nat_le a.max_entries (map.len m) then Err (full_errno a) else step) (Key k x)
    cases true there = or_fails _ (flag == 1) EEXIST _ _ same
    cases false absent = or_fails _ (flag == 2) ENOENT _ _ (or_fails_alike _ (nat_le a.max_entries (map.len m)) _ (full_errno a) _ _ (full absent) same)

deleted_after : (m : ByKey (List ℕ)) (k : List ℕ) (x : Option (List ℕ)) (key : List ℕ) → k ≢ key → entry_deleted (put_under m k x) (Some key) ≡ then_turned (entry_deleted m (Some key)) (Key k x)
deleted_after m k x key apart =
    ap (λ there. if there then goes (Entries (map.remove (put_under m k x) key)) Done (Key key (map.get (put_under m k x) key)) else Err ENOENT) (there_after m k x key apart)
    ∙ either _ (map.contains_key m key) _ _ _ _ (goes_after (Entries m) (Key k x) (Key key None) Done (entries_apart m k key x None apart)) refl

stored_after : (a : MapAttr) (m : ByKey (List ℕ)) (k : List ℕ) (x : Option (List ℕ)) (key : List ℕ) (old : Option (List ℕ)) (offset : ℕ) (bytes : List ℕ) → k ≢ key → entry_stored a (put_under m k x) (with_key key old) offset bytes ≡ then_turned (entry_stored a m (with_key key old) offset bytes) (Key k x)
stored_after a m k x key None offset bytes apart = refl
stored_after a m k x key (Some old) offset bytes apart =
    or_fails _ (not (range_fits a offset (length bytes))) EINVAL _ _ (entry_set_after m k x key _ Done apart)

combined_after : (a : MapAttr) (m : ByKey (List ℕ)) (k : List ℕ) (x : Option (List ℕ)) (key : List ℕ) (old : Option (List ℕ)) (offset : ℕ) (size : AtomicSize) (op : AtomicOp) (operand : ℕ) → k ≢ key
    → entry_combined a (put_under m k x) (with_key key old) offset size op operand ≡ then_turned (entry_combined a m (with_key key old) offset size op operand) (Key k x)
combined_after a m k x key None offset size op operand apart = refl
combined_after a m k x key (Some old) offset size op operand apart =
    or_fails _ (not (range_fits a offset (size_in_bytes size))) EINVAL _ _ (entry_set_after m k x key _ _ apart)

-- what is known of the address of an operation's key
abbrev KeyApart : {X : Type 0} → MapAttr → ByKey X → List ℕ → Option X → Option (List ℕ) → Type 0
KeyApart a m k x stored = (key : List ℕ) → stored ≡ Some key → k ≢ key

abbrev RoomAlike : {X : Type 0} → MapAttr → ByKey X → List ℕ → Option X → Option (List ℕ) → Type 0
RoomAlike a m k x stored = (key : List ℕ) → stored ≡ Some key → AsFull a m k x key

update_after : (a : MapAttr) (m : ByKey (List ℕ)) (k : List ℕ) (x : Option (List ℕ)) (stored : Option (List ℕ)) (value : List ℕ) (flag : ℕ) → KeyApart a m k x stored → RoomAlike a m k x stored
    → entry_updated a (put_under m k x) stored value flag ≡ then_turned (entry_updated a m stored value flag) (Key k x)
update_after a m k x None value flag apart full = refl
update_after a m k x (Some key) value flag apart full = updated_after a m k x key value flag (apart key refl) (full key refl)

delete_after : (a : MapAttr) (m : ByKey (List ℕ)) (k : List ℕ) (x : Option (List ℕ)) (stored : Option (List ℕ)) → KeyApart a m k x stored → entry_deleted (put_under m k x) stored ≡ then_turned (entry_deleted m stored) (Key k x)
delete_after a m k x None apart = refl
delete_after a m k x (Some key) apart = deleted_after m k x key (apart key refl)

store_after : (a : MapAttr) (m : ByKey (List ℕ)) (k : List ℕ) (x : Option (List ℕ)) (stored : Option (List ℕ)) (offset : ℕ) (bytes : List ℕ) → KeyApart a m k x stored
    → entry_stored a (put_under m k x) (entry_at (put_under m k x) stored) offset bytes ≡ then_turned (entry_stored a m (entry_at m stored) offset bytes) (Key k x)
store_after a m k x None offset bytes apart = refl
store_after a m k x (Some key) offset bytes apart =
    ap (λ old. entry_stored a (put_under m k x) (with_key key old) offset bytes) (get-put_under_other m k key x (apart key refl))
    ∙ stored_after a m k x key (map.get m key) offset bytes (apart key refl)

combine_after : (a : MapAttr) (m : ByKey (List ℕ)) (k : List ℕ) (x : Option (List ℕ)) (stored : Option (List ℕ)) (offset : ℕ) (size : AtomicSize) (op : AtomicOp) (operand : ℕ) → KeyApart a m k x stored
    → entry_combined a (put_under m k x) (entry_at (put_under m k x) stored) offset size op operand ≡ then_turned (entry_combined a m (entry_at m stored) offset size op operand) (Key k x)
combine_after a m k x None offset size op operand apart = refl
combine_after a m k x (Some key) offset size op operand apart =
    ap (λ old. entry_combined a (put_under m k x) (with_key key old) offset size op operand) (get-put_under_other m k key x (apart key refl))
    ∙ combined_after a m k x key (map.get m key) offset size op operand (apart key refl)

-- a key under whose address the exchange does not reach
key_apart : {X : Type 0} (a : MapAttr) (m : ByKey X) (k : List ℕ) (x : Option X) (stored : Option (List ℕ)) → place_in (shape_of_type a.kind) k ≢ place_at a stored → KeyApart a m k x stored
key_apart a m k x stored apart key is same = apart (ap (place_in (shape_of_type a.kind)) same ∙ sym (ap (place_at a) is))

room_alike : (a : MapAttr) (m : ByKey (List ℕ)) (k : List ℕ) (x : Option (List ℕ)) (stored : Option (List ℕ)) → shape_of_type a.kind ≡ OfEntries
    → (lacks (Entries m) (place_at a stored) ≡ true → is_full a (Entries (put_under m k x)) ≡ is_full a (Entries m)) → RoomAlike a m k x stored
room_alike a m k x stored e full key is absent =
    full (ap (λ o. lacks (Entries m) (place_at a o)) is ∙ ap (λ s. lacks (Entries m) (place_in s key)) e ∙ ap not absent)

entries_after : (a : MapAttr) (m : ByKey (List ℕ)) (k : List ℕ) (x : Option (List ℕ)) (op : MapOp) → shape_of_type a.kind ≡ OfEntries → place_of a (Key k x) ≢ place_of_op a op
    → (adds_key a (Entries m) op ≡ true → is_full a (Entries (put_under m k x)) ≡ is_full a (Entries m)) → entries_step a (put_under m k x) op ≡ then_turned (entries_step a m op) (Key k x)
entries_after a m k x (Update key value flag) e apart full =
    or_fails _ (not (is_flag flag)) EINVAL _ _ (or_fails _ (not (pair_fits a key value)) EINVAL _ _
    (update_after a m k x (address a key) value flag (key_apart a m k x (address a key) apart) (room_alike a m k x (address a key) e full)))
entries_after a m k x (Delete key) e apart full =
    or_fails _ (not (key_fits a key)) EINVAL _ _ (delete_after a m k x (address a key) (key_apart a m k x (address a key) apart))
entries_after a m k x (Push value flag) e apart full = refl
entries_after a m k x Pop e apart full = refl
entries_after a m k x (Store key offset bytes) e apart full =
    or_fails _ (not (key_fits a key)) EINVAL _ _ (store_after a m k x (address a key) offset bytes (key_apart a m k x (address a key) apart))
entries_after a m k x (Atomic key offset size op operand) e apart full =
    or_fails _ (not (key_fits a key)) EINVAL _ _ (combine_after a m k x (address a key) offset size op operand (key_apart a m k x (address a key) apart))
entries_after a m k x (SetLink key id flag) e apart full = refl

-- ---- maps of ids
slot_set_after : (ls : List (Option ℕ)) (k : List ℕ) (x : Option ℕ) (key : List ℕ) (id : Option ℕ) → OtherIndex k key → slot_set (set ls (index_of k) x) key id ≡ then_turned (slot_set ls key id) (Link k x)
slot_set_after ls k x key id o = goes_after (Slots ls) (Link k x) (Link key id) Done (slots_apart ls k key x id o.apart)

cleared_after : (ls : List (Option ℕ)) (k : List ℕ) (x : Option ℕ) (key : List ℕ) (old : Option ℕ) → OtherIndex k key → slot_cleared (set ls (index_of k) x) key old ≡ then_turned (slot_cleared ls key old) (Link k x)
cleared_after ls k x key None o = refl
cleared_after ls k x key (Some id) o = slot_set_after ls k x key None o

slots_after : (a : MapAttr) (ls : List (Option ℕ)) (k : List ℕ) (x : Option ℕ) (op : MapOp) → ((key : List ℕ) → place_of_op a op ≡ place_at a (address a key) → OtherIndex k key) → slots_step a (set ls (index_of k) x) op ≡ then_turned (slots_step a ls op) (Link k x)
slots_after a ls k x (Update key value flag) o = refl
slots_after a ls k x (Delete key) o =
    or_fails _ (not (key_fits a key)) EINVAL _ _ (or_fails_alike _ (is_past ls key) _ E2BIG _ _ (past_after ls k key x)
    (ap (slot_cleared (set ls (index_of k) x) key) (old_after ls k key x None (o key refl)) ∙ cleared_after ls k x key (get_or ls (index_of key) None) (o key refl)))
slots_after a ls k x (Push value flag) o = refl
slots_after a ls k x Pop o = refl
slots_after a ls k x (Store key offset bytes) o = refl
slots_after a ls k x (Atomic key offset size op operand) o = refl
slots_after a ls k x (SetLink key id flag) o =
    or_fails _ (not (key_fits a key)) EINVAL _ _ (or_fails _ (not (flag == 0)) EINVAL _ _
    (or_fails_alike _ (is_past ls key) _ E2BIG _ _ (past_after ls k key x) (slot_set_after ls k x key (Some id) (o key refl))))

link_set_after : (m : ByKey ℕ) (k : List ℕ) (x : Option ℕ) (key : List ℕ) (y : Option ℕ) → k ≢ key
    → goes (Links (put_under (put_under m k x) key y)) Done (Link key (map.get (put_under m k x) key)) ≡ then_turned (goes (Links (put_under m key y)) Done (Link key (map.get m key))) (Link k x)
link_set_after m k x key y apart = goes_after (Links m) (Link k x) (Link key y) Done (links_apart m k key x y apart)

-- an id put under a key
abbrev link_set : MapAttr → ByKey ℕ → List ℕ → ℕ → ℕ → Step
link_set a m key id flag =
    if map.contains_key m key then
    (if flag == 1 then Err EEXIST else goes (Links (map.insert m key id)) Done (Link key (map.get m key))) else
    if flag == 2 then Err ENOENT else
    if nat_le a.max_entries (map.len m) then Err E2BIG else
    goes (Links (map.insert m key id)) Done (Link key (map.get m key))

linked_after : (a : MapAttr) (m : ByKey ℕ) (k : List ℕ) (x : Option ℕ) (key : List ℕ) (id flag : ℕ) → k ≢ key → AsFull a m k x key
    → link_set a (put_under m k x) key id flag ≡ then_turned (link_set a m key id flag) (Link k x)
linked_after a m k x key id flag apart full =
    ap (λ there. if there then (if flag == 1 then Err EEXIST else after) else if flag == 2 then Err ENOENT else if nat_le a.max_entries (map.len (put_under m k x)) then Err E2BIG else after) (there_after m k x key apart)
    ∙ cases (map.contains_key m key) refl
  where
    step : Step
    step = goes (Links (map.insert m key id)) Done (Link key (map.get m key))

    after : Step
    after = goes (Links (map.insert (put_under m k x) key id)) Done (Link key (map.get (put_under m k x) key))

    same : after ≡ then_turned step (Link k x)
    same = link_set_after m k x key (Some id) apart

    cases : (there : Bool) → map.contains_key m key ≡ there
        → (if there then (if flag == 1 then Err EEXIST else after) else if flag == 2 then Err ENOENT else if nat_le a.max_entries (map.len (put_under m k x)) then Err E2BIG else after)
        ≡ then_turned (if there then (if flag == 1 then Err EEXIST else step) else if flag == 2 then Err ENOENT else if nat_le a.max_entries (map.len m) then Err E2BIG else step) (Link k x)
    cases true there = or_fails _ (flag == 1) EEXIST _ _ same
    cases false absent = or_fails _ (flag == 2) ENOENT _ _ (or_fails_alike _ (nat_le a.max_entries (map.len m)) _ E2BIG _ _ (full absent) same)

link_full : (a : MapAttr) (m : ByKey ℕ) (k : List ℕ) (x : Option ℕ) (key : List ℕ) → shape_of_type a.kind ≡ OfLinks
    → (lacks (Links m) (place_at a (address a key)) ≡ true → is_full a (Links (put_under m k x)) ≡ is_full a (Links m)) → AsFull a m k x key
link_full a m k x key e full absent =
    full (ap (λ o. lacks (Links m) (place_at a o)) (plain_address a OfLinks key e links_no_entries) ∙ ap (λ s. lacks (Links m) (place_in s key)) e ∙ ap not absent)

links_after : (a : MapAttr) (m : ByKey ℕ) (k : List ℕ) (x : Option ℕ) (op : MapOp) → shape_of_type a.kind ≡ OfLinks → place_of a (Link k x) ≢ place_of_op a op
    → (adds_key a (Links m) op ≡ true → is_full a (Links (put_under m k x)) ≡ is_full a (Links m)) → links_step a (put_under m k x) op ≡ then_turned (links_step a m op) (Link k x)
links_after a m k x (Update key value flag) e apart full = refl
links_after a m k x (Delete key) e apart full =
    let differ = key_apart a m k x (address a key) apart key (plain_address a OfLinks key e links_no_entries) in
    or_fails _ (not (key_fits a key)) EINVAL _ _
    (ap (λ there. if there then goes (Links (map.remove (put_under m k x) key)) Done (Link key (map.get (put_under m k x) key)) else Err ENOENT) (there_after m k x key differ)
    ∙ either _ (map.contains_key m key) _ _ _ _ (link_set_after m k x key None differ) refl)
links_after a m k x (Push value flag) e apart full = refl
links_after a m k x Pop e apart full = refl
links_after a m k x (Store key offset bytes) e apart full = refl
links_after a m k x (Atomic key offset size op operand) e apart full = refl
links_after a m k x (SetLink key id flag) e apart full =
    let differ = key_apart a m k x (address a key) apart key (plain_address a OfLinks key e links_no_entries) in
    or_fails _ (not (is_flag flag)) EINVAL _ _ (or_fails _ (not (key_fits a key)) EINVAL _ _ (linked_after a m k x key id flag differ (link_full a m k x key e full)))

-- ---- any map
-- an index apart, read off the places
other_index : (a : MapAttr) (s : Shape) (k key : List ℕ) → shape_of_type a.kind ≡ s → s ≢ OfEntries → ((k : List ℕ) → place_in s k ≡ AtIndex (index_of k)) → place_in (shape_of_type a.kind) k ≢ place_at a (address a key) → OtherIndex k key
other_index a s k key e plain index apart = record { apart = λ i. apart (at k ∙ ap AtIndex i ∙ sym (at key) ∙ sym (ap (place_at a) (plain_address a s key e plain))) }
  where
    at : (k : List ℕ) → place_in (shape_of_type a.kind) k ≡ AtIndex (index_of k)
    at k = ap (λ s. place_in s k) e ∙ index k

-- every operation of a queue or a stack touches the whole
op_of_items : (a : MapAttr) (op : MapOp) → shape_of_type a.kind ≡ OfItems → place_of_op a op ≡ Whole
op_of_items a op e = of op
  where
    keyed : (key : List ℕ) → place_at a (address a key) ≡ Whole
    keyed key = ap (place_at a) (plain_address a OfItems key e items_no_entries) ∙ ap (λ s. place_in s key) e

    of : (op : MapOp) → place_of_op a op ≡ Whole
    of (Update key value flag) = keyed key
    of (Delete key) = keyed key
    of (Push value flag) = refl
    of Pop = refl
    of (Store key offset bytes) = keyed key
    of (Atomic key offset size op operand) = keyed key
    of (SetLink key id flag) = keyed key

pub operation_apart : (a : MapAttr) (c : Contents) (b : Back) (op : MapOp) → OperationApart a c b op
operation_apart a (Values vs) (Key k None) op t apart full = no_fit t.fits
operation_apart a (Values vs) (Key k (Some v)) op t apart full =
    values_after a vs k v op (λ key is. other_index a OfValues k key t.well.shape values_no_entries (λ k. refl) (λ same. apart (same ∙ sym is)))
operation_apart a (Values vs) (Ends _ _ _ _) op t apart full = no_fit t.fits
operation_apart a (Values vs) (Link _ _) op t apart full = no_fit t.fits
operation_apart a (Entries m) (Key k x) op t apart full = entries_after a m k x op t.well.shape apart full
operation_apart a (Entries m) (Ends _ _ _ _) op t apart full = no_fit t.fits
operation_apart a (Entries m) (Link _ _) op t apart full = no_fit t.fits
operation_apart a (Items xs) b op t apart full = absurd (apart (place_of_items a b t.well.shape ∙ sym (op_of_items a op t.well.shape)))
operation_apart a (Slots ls) (Key _ _) op t apart full = no_fit t.fits
operation_apart a (Slots ls) (Ends _ _ _ _) op t apart full = no_fit t.fits
operation_apart a (Slots ls) (Link k x) op t apart full =
    slots_after a ls k x op (λ key is. other_index a OfSlots k key t.well.shape slots_no_entries (λ k. refl) (λ same. apart (same ∙ sym is)))
operation_apart a (Links m) (Key _ _) op t apart full = no_fit t.fits
operation_apart a (Links m) (Ends _ _ _ _) op t apart full = no_fit t.fits
operation_apart a (Links m) (Link k x) op t apart full = links_after a m k x op t.well.shape apart full
