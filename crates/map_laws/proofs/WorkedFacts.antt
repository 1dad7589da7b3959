-- Small facts of the tables, each worked out by hand beforehand: the definitions answer as an operator expects.
use Rattle.std.proofs.Common.{◌≡◌, ℕ, true, false, List, [], ◌∷◌, Some, None, Ok, Err, refl}
use Rattle.std.specs.FinMap as map
use Rattle.bt_mapkind.specs.declared.attr.MapAttr.{MapAttr}
use Rattle.bt_mapkind.specs.declared.attr.MapType.{MapType}
use Rattle.bt_mapkind.specs.declared.attr.MapType.TheVariants.{Array, Hash, LpmTrie, Queue, Stack, ProgArray, HashOfMaps}
use Rattle.bt_mapkind.specs.declared.errno.Errno.TheVariants.{ENOENT, E2BIG, EEXIST, EINVAL, ENOSPC}
use Rattle.bt_mapkind.specs.declared.atomic.AtomicOp.TheVariants.{Add, Xor, CompareExchange}
use Rattle.bt_mapkind.specs.declared.atomic.AtomicSize.TheVariants.{Word, DoubleWord}
use Rattle.bt_mapkind.specs.declared.exchange.Back.TheVariants.{Key as BackKey, Ends, Link as BackLink}
use Rattle.bt_mapkind.specs.declared.request.MapOp.TheVariants.{Update, Delete, Push, Pop, Store, Atomic, SetLink}
use Rattle.bt_mapkind.specs.declared.request.MapReply.TheVariants.{Done, Nothing, Found, Value, Key, Link}
use Rattle.bt_mapkind.specs.declared.request.Query.TheVariants.{Lookup, Next, Peek}
use Rattle.bt_mapkind.specs.Attributes.{good, charge_of}
use Rattle.bt_mapkind.specs.Contents.{ByKey, Values, Entries, Items, Slots, Links, fresh}
use Rattle.bt_mapkind.specs.Index.{index_of}
use Rattle.bt_mapkind.specs.Atomic.{number_of, bytes_of, bytes_after}
use Rattle.bt_mapkind.specs.Prefix.{stored_prefix, is_prefix_of, longest}
use Rattle.bt_mapkind.specs.Step.{goes, map_step}
use Rattle.bt_mapkind.specs.Read.{map_read, key_of_index}
use Rattle.bt_mapkind.specs.Exchange.{exchanged}

attr_of : MapType → ℕ → ℕ → ℕ → ℕ → MapAttr
attr_of kind key value entries flags = record { kind = kind; key_size = key; value_size = value; max_entries = entries; flags = flags }

-- ---- attributes
array_has_four_byte_keys : good (attr_of Array 4 1 1 0) ≡ true
unfolding attr_of
array_has_four_byte_keys = refl

array_has_no_flags : good (attr_of Array 4 1 1 1) ≡ false
unfolding attr_of
array_has_no_flags = refl

hash_key_of_65_bytes_is_bad : good (attr_of Hash 65 1 1 0) ≡ false
unfolding attr_of
hash_key_of_65_bytes_is_bad = refl

lpm_needs_its_flag : good (attr_of LpmTrie 8 1 2 0) ≡ false
unfolding attr_of
lpm_needs_its_flag = refl

queue_has_no_key : good (attr_of Queue 4 1 2 0) ≡ false
unfolding attr_of
queue_has_no_key = refl

ids_have_four_bytes : good (attr_of ProgArray 4 8 1 0) ≡ false
unfolding attr_of
ids_have_four_bytes = refl

value_of_257_bytes_is_bad : good (attr_of Stack 0 257 2 0) ≡ false
unfolding attr_of
value_of_257_bytes_is_bad = refl

an_array_charges_for_its_entries : charge_of (attr_of Array 4 1 2 0) ≡ 10
unfolding attr_of
an_array_charges_for_its_entries = refl

-- ---- an array of one value of one byte
one : MapAttr
one = attr_of Array 4 1 1 0

zero_key : List ℕ
zero_key = 0 ∷ 0 ∷ 0 ∷ 0 ∷ []

one_key : List ℕ
one_key = 1 ∷ 0 ∷ 0 ∷ 0 ∷ []

array_begins_zero : fresh one ≡ Values ((0 ∷ []) ∷ [])
unfolding one attr_of
array_begins_zero = refl

update_keeps_what_stood_there : map_step one (Values ((0 ∷ []) ∷ [])) (Update zero_key (7 ∷ []) 0) ≡ goes (Values ((7 ∷ []) ∷ [])) Done (BackKey zero_key (Some (0 ∷ [])))
unfolding one attr_of zero_key index_of
update_keeps_what_stood_there = refl

update_past_the_end_is_e2big : map_step one (Values ((0 ∷ []) ∷ [])) (Update one_key (7 ∷ []) 0) ≡ Err E2BIG
unfolding one attr_of one_key index_of
update_past_the_end_is_e2big = refl

noexist_of_an_index_is_eexist : map_step one (Values ((0 ∷ []) ∷ [])) (Update zero_key (7 ∷ []) 1) ≡ Err EEXIST
unfolding one attr_of zero_key index_of
noexist_of_an_index_is_eexist = refl

unknown_flag_is_einval : map_step one (Values ((0 ∷ []) ∷ [])) (Update one_key (7 ∷ []) 3) ≡ Err EINVAL
unfolding one attr_of one_key
unknown_flag_is_einval = refl

short_key_is_einval : map_step one (Values ((0 ∷ []) ∷ [])) (Update (0 ∷ []) (7 ∷ []) 0) ≡ Err EINVAL
unfolding one attr_of
short_key_is_einval = refl

an_index_is_not_deleted : map_step one (Values ((0 ∷ []) ∷ [])) (Delete zero_key) ≡ Err EINVAL
an_index_is_not_deleted = refl

lookup_finds_the_value : map_read one (Values ((7 ∷ []) ∷ [])) (Lookup zero_key) ≡ Ok (Found zero_key (7 ∷ []))
unfolding one attr_of zero_key index_of
lookup_finds_the_value = refl

lookup_past_the_end_finds_nothing : map_read one (Values ((7 ∷ []) ∷ [])) (Lookup one_key) ≡ Ok Nothing
unfolding one attr_of one_key index_of
lookup_past_the_end_finds_nothing = refl

no_key_follows_the_last : map_read one (Values ((7 ∷ []) ∷ [])) (Next (Some zero_key)) ≡ Ok Nothing
unfolding one attr_of zero_key index_of
no_key_follows_the_last = refl

an_absent_key_is_followed_by_the_first : map_read one (Values ((7 ∷ []) ∷ [])) (Next (Some one_key)) ≡ Ok (Key zero_key)
unfolding one attr_of one_key zero_key index_of key_of_index
an_absent_key_is_followed_by_the_first = refl

store_past_the_value_is_einval : map_step one (Values ((7 ∷ []) ∷ [])) (Store zero_key 1 (9 ∷ [])) ≡ Err EINVAL
unfolding one attr_of zero_key index_of
store_past_the_value_is_einval = refl

store_at_a_missing_index_is_enoent : map_step one (Values ((7 ∷ []) ∷ [])) (Store one_key 0 (9 ∷ [])) ≡ Err ENOENT
unfolding one attr_of one_key index_of
store_at_a_missing_index_is_enoent = refl

-- ---- atomic instructions
counter : MapAttr
counter = attr_of Array 4 8 1 0

add_carries_and_fetches : map_step counter (Values ((255 ∷ 0 ∷ 0 ∷ 0 ∷ 0 ∷ 0 ∷ 0 ∷ 0 ∷ []) ∷ [])) (Atomic zero_key 0 DoubleWord (Add true) 1)
    ≡ goes (Values ((0 ∷ 1 ∷ 0 ∷ 0 ∷ 0 ∷ 0 ∷ 0 ∷ 0 ∷ []) ∷ [])) (Value (255 ∷ 0 ∷ 0 ∷ 0 ∷ 0 ∷ 0 ∷ 0 ∷ 0 ∷ [])) (BackKey zero_key (Some (255 ∷ 0 ∷ 0 ∷ 0 ∷ 0 ∷ 0 ∷ 0 ∷ 0 ∷ [])))
unfolding counter attr_of zero_key index_of number_of bytes_of
add_carries_and_fetches = refl

a_word_wraps_within_its_bytes : map_step counter (Values ((255 ∷ 255 ∷ 255 ∷ 255 ∷ 9 ∷ 0 ∷ 0 ∷ 0 ∷ []) ∷ [])) (Atomic zero_key 0 Word (Add false) 1)
    ≡ goes (Values ((0 ∷ 0 ∷ 0 ∷ 0 ∷ 9 ∷ 0 ∷ 0 ∷ 0 ∷ []) ∷ [])) Done (BackKey zero_key (Some (255 ∷ 255 ∷ 255 ∷ 255 ∷ 9 ∷ 0 ∷ 0 ∷ 0 ∷ [])))
unfolding counter attr_of zero_key index_of number_of bytes_of
a_word_wraps_within_its_bytes = refl

compare_exchange_leaves_what_differs : bytes_after (CompareExchange 5) Word 9 (4 ∷ 0 ∷ 0 ∷ 0 ∷ []) ≡ 4 ∷ 0 ∷ 0 ∷ 0 ∷ []
unfolding number_of bytes_of
compare_exchange_leaves_what_differs = refl

compare_exchange_stores_where_equal : bytes_after (CompareExchange 4) Word 9 (4 ∷ 0 ∷ 0 ∷ 0 ∷ []) ≡ 9 ∷ 0 ∷ 0 ∷ 0 ∷ []
unfolding number_of bytes_of
compare_exchange_stores_where_equal = refl

xor_of_a_byte : bytes_after (Xor false) Word 255 (15 ∷ 1 ∷ 0 ∷ 0 ∷ []) ≡ 240 ∷ 1 ∷ 0 ∷ 0 ∷ []
unfolding number_of bytes_of
xor_of_a_byte = refl

-- ---- a hash of two entries
pair : MapAttr
pair = attr_of Hash 1 1 2 0

new_key_in_a_full_hash_is_e2big : (m : ByKey (List ℕ)) → map.get m (3 ∷ []) ≡ None → map.len m ≡ 2 → map_step pair (Entries m) (Update (3 ∷ []) (30 ∷ []) 0) ≡ Err E2BIG
unfolding pair attr_of
new_key_in_a_full_hash_is_e2big m absent full = rw (absent, full) refl

exist_of_a_missing_key_is_enoent : (m : ByKey (List ℕ)) → map.get m (3 ∷ []) ≡ None → map_step pair (Entries m) (Update (3 ∷ []) (30 ∷ []) 2) ≡ Err ENOENT
unfolding pair attr_of
exist_of_a_missing_key_is_enoent m absent = rw absent refl

noexist_of_a_key_is_eexist : (m : ByKey (List ℕ)) → map.get m (3 ∷ []) ≡ Some (9 ∷ []) → map_step pair (Entries m) (Update (3 ∷ []) (30 ∷ []) 1) ≡ Err EEXIST
unfolding pair attr_of
noexist_of_a_key_is_eexist m there = rw there refl

delete_of_a_missing_key_is_enoent : (m : ByKey (List ℕ)) → map.get m (3 ∷ []) ≡ None → map_step pair (Entries m) (Delete (3 ∷ [])) ≡ Err ENOENT
unfolding pair attr_of
delete_of_a_missing_key_is_enoent m absent = rw absent refl

-- ---- an LPM trie of prefixes of four bytes
trie : MapAttr
trie = attr_of LpmTrie 8 1 2 1

bits_past_the_prefix_are_zero : stored_prefix (12 ∷ 0 ∷ 0 ∷ 0 ∷ 10 ∷ 31 ∷ 2 ∷ 3 ∷ []) ≡ 12 ∷ 0 ∷ 0 ∷ 0 ∷ 10 ∷ 16 ∷ 0 ∷ 0 ∷ []
unfolding index_of
bits_past_the_prefix_are_zero = refl

a_prefix_too_long_is_einval : (m : ByKey (List ℕ)) → map_step trie (Entries m) (Update (33 ∷ 0 ∷ 0 ∷ 0 ∷ 10 ∷ 1 ∷ 2 ∷ 3 ∷ []) (3 ∷ []) 0) ≡ Err EINVAL
unfolding trie attr_of index_of
a_prefix_too_long_is_einval m = refl

a_full_trie_is_enospc : (m : ByKey (List ℕ)) → map.get m (24 ∷ 0 ∷ 0 ∷ 0 ∷ 10 ∷ 1 ∷ 2 ∷ 0 ∷ []) ≡ None → map.len m ≡ 2 → map_step trie (Entries m) (Update (24 ∷ 0 ∷ 0 ∷ 0 ∷ 10 ∷ 1 ∷ 2 ∷ 9 ∷ []) (3 ∷ []) 0) ≡ Err ENOSPC
unfolding trie attr_of index_of
a_full_trie_is_enospc m absent full = rw (absent, full) refl

a_longer_prefix_does_not_match_a_shorter_key : is_prefix_of (12 ∷ 0 ∷ 0 ∷ 0 ∷ 10 ∷ 1 ∷ 2 ∷ 3 ∷ []) (16 ∷ 0 ∷ 0 ∷ 0 ∷ 10 ∷ 1 ∷ 0 ∷ 0 ∷ []) ≡ false
unfolding index_of
a_longer_prefix_does_not_match_a_shorter_key = refl

a_prefix_matches_its_bits : is_prefix_of (32 ∷ 0 ∷ 0 ∷ 0 ∷ 10 ∷ 1 ∷ 2 ∷ 3 ∷ []) (16 ∷ 0 ∷ 0 ∷ 0 ∷ 10 ∷ 1 ∷ 0 ∷ 0 ∷ []) ≡ true
unfolding index_of
a_prefix_matches_its_bits = refl

the_longest_wins : longest ((8 ∷ 0 ∷ 0 ∷ 0 ∷ 10 ∷ [], 1 ∷ []) ∷ (16 ∷ 0 ∷ 0 ∷ 0 ∷ 10 ∷ [], 2 ∷ []) ∷ []) ≡ Some (16 ∷ 0 ∷ 0 ∷ 0 ∷ 10 ∷ [], 2 ∷ [])
unfolding index_of
the_longest_wins = refl

-- ---- a queue and a stack of two items
queue : MapAttr
queue = attr_of Queue 0 1 2 0

stack : MapAttr
stack = attr_of Stack 0 1 2 0

push_to_a_full_queue_is_e2big : map_step queue (Items ((65 ∷ []) ∷ (66 ∷ []) ∷ [])) (Push (67 ∷ []) 0) ≡ Err E2BIG
unfolding queue attr_of
push_to_a_full_queue_is_e2big = refl

exist_removes_the_oldest : map_step queue (Items ((65 ∷ []) ∷ (66 ∷ []) ∷ [])) (Push (67 ∷ []) 2) ≡ goes (Items ((66 ∷ []) ∷ (67 ∷ []) ∷ [])) Done (Ends false true (Some (65 ∷ [])) None)
unfolding queue attr_of
exist_removes_the_oldest = refl

a_queue_gives_the_oldest : map_step queue (Items ((65 ∷ []) ∷ (66 ∷ []) ∷ [])) Pop ≡ goes (Items ((66 ∷ []) ∷ [])) (Value (65 ∷ [])) (Ends false false (Some (65 ∷ [])) None)
unfolding queue attr_of
a_queue_gives_the_oldest = refl

a_popped_item_goes_back_to_the_front : (exchanged (Items ((66 ∷ []) ∷ [])) (Ends false false (Some (65 ∷ [])) None)).0 ≡ Items ((65 ∷ []) ∷ (66 ∷ []) ∷ [])
a_popped_item_goes_back_to_the_front = refl

a_stack_gives_the_newest : map_step stack (Items ((65 ∷ []) ∷ (66 ∷ []) ∷ [])) Pop ≡ goes (Items ((65 ∷ []) ∷ [])) (Value (66 ∷ [])) (Ends false false None (Some (66 ∷ [])))
unfolding stack attr_of
a_stack_gives_the_newest = refl

pop_of_an_empty_stack_is_enoent : map_step stack (Items []) Pop ≡ Err ENOENT
unfolding stack attr_of
pop_of_an_empty_stack_is_enoent = refl

noexist_of_a_push_is_einval : map_step stack (Items []) (Push (65 ∷ []) 1) ≡ Err EINVAL
unfolding stack attr_of
noexist_of_a_push_is_einval = refl

a_stack_shows_the_newest : map_read stack (Items ((65 ∷ []) ∷ (66 ∷ []) ∷ [])) Peek ≡ Ok (Value (66 ∷ []))
unfolding stack attr_of
a_stack_shows_the_newest = refl

a_queue_has_no_next_key : map_read queue (Items ((65 ∷ []) ∷ [])) (Next None) ≡ Err EINVAL
a_queue_has_no_next_key = refl

-- ---- maps of ids
programs : MapAttr
programs = attr_of ProgArray 4 4 1 0

maps : MapAttr
maps = attr_of HashOfMaps 2 4 1 0

an_id_goes_into_a_slot : map_step programs (Slots (None ∷ [])) (SetLink zero_key 3 0) ≡ goes (Slots (Some 3 ∷ [])) Done (BackLink zero_key None)
unfolding programs attr_of zero_key index_of
an_id_goes_into_a_slot = refl

a_slot_takes_no_flag : map_step programs (Slots (None ∷ [])) (SetLink zero_key 3 2) ≡ Err EINVAL
unfolding programs attr_of zero_key
a_slot_takes_no_flag = refl

an_empty_slot_is_not_deleted : map_step programs (Slots (None ∷ [])) (Delete zero_key) ≡ Err ENOENT
unfolding programs attr_of zero_key index_of
an_empty_slot_is_not_deleted = refl

bytes_are_no_id : map_step programs (Slots (None ∷ [])) (Update zero_key (1 ∷ 0 ∷ 0 ∷ 0 ∷ []) 0) ≡ Err EINVAL
bytes_are_no_id = refl

a_full_hash_of_maps_is_e2big : (m : ByKey ℕ) → map.get m (1 ∷ 3 ∷ []) ≡ None → map.len m ≡ 1 → map_step maps (Links m) (SetLink (1 ∷ 3 ∷ []) 1 0) ≡ Err E2BIG
unfolding maps attr_of
a_full_hash_of_maps_is_e2big m absent full = rw (absent, full) refl

noexist_of_an_id_is_eexist : (m : ByKey ℕ) → map.get m (1 ∷ 2 ∷ []) ≡ Some 1 → map_step maps (Links m) (SetLink (1 ∷ 2 ∷ []) 1 1) ≡ Err EEXIST
unfolding maps attr_of
noexist_of_an_id_is_eexist m there = rw there refl

a_link_is_found : (m : ByKey ℕ) → map.get m (1 ∷ 2 ∷ []) ≡ Some 7 → map_read maps (Links m) (Lookup (1 ∷ 2 ∷ [])) ≡ Ok (Link 7)
unfolding maps attr_of
a_link_is_found m there = rw there refl
