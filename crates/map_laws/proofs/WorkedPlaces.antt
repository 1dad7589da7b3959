-- Small facts of places and walks, each worked out by hand beforehand.
use Rattle.std.proofs.Common.{◌≡◌, ℕ, true, false, List, [], ◌∷◌, Some, None, refl}
use Rattle.std.specs.FinMap as map
use Rattle.bt_mapkind.specs.declared.attr.MapAttr.{MapAttr}
use Rattle.bt_mapkind.specs.declared.attr.MapType.{MapType}
use Rattle.bt_mapkind.specs.declared.attr.MapType.TheVariants.{Array, Hash, LpmTrie, Queue}
use Rattle.bt_mapkind.specs.declared.exchange.Back.TheVariants.{Key as BackKey, Ends}
use Rattle.bt_mapkind.specs.declared.request.MapOp.TheVariants.{Update, Delete}
use Rattle.bt_mapkind.specs.declared.request.MapReply.TheVariants.{Done}
use Rattle.bt_mapkind.specs.Contents.{ByKey, Values, Entries, Slots}
use Rattle.bt_mapkind.specs.Index.{index_of}
use Rattle.bt_mapkind.specs.Step.{goes, map_step}
use Rattle.bt_mapkind.specs.Read.{key_of_index}
use Rattle.bt_mapkind.specs.Exchange.{exchanged}
use Rattle.map_laws.specs.Laws.{forth_of}
use Rattle.map_laws.specs.Walk.{Walks, ComesBefore, keys_of, dumped_keys}
use Rattle.map_laws.specs.Standing.{value_at, id_at}
use Rattle.map_laws.specs.Place.{AtIndex, AtKey, Whole, Nowhere, place_of, place_of_op, adds_key, is_full}

attr_of : MapType → ℕ → ℕ → ℕ → ℕ → MapAttr
attr_of kind key value entries flags = record { kind = kind; key_size = key; value_size = value; max_entries = entries; flags = flags }

zero_key : List ℕ
zero_key = 0 ∷ 0 ∷ 0 ∷ 0 ∷ []

one_key : List ℕ
one_key = 1 ∷ 0 ∷ 0 ∷ 0 ∷ []

pair : MapAttr
pair = attr_of Hash 1 1 2 0

trie : MapAttr
trie = attr_of LpmTrie 8 1 2 1

queue : MapAttr
queue = attr_of Queue 0 1 2 0

-- ---- places
two : MapAttr
two = attr_of Array 4 1 2 0

two_indices_are_two_places : place_of two (BackKey one_key (Some (7 ∷ []))) ≡ AtIndex 1
unfolding two attr_of one_key index_of
two_indices_are_two_places = refl

one_after_the_other : (exchanged (exchanged (Values ((1 ∷ []) ∷ (2 ∷ []) ∷ [])) (BackKey zero_key (Some (7 ∷ [])))).0 (BackKey one_key (Some (8 ∷ [])))).0 ≡ Values ((7 ∷ []) ∷ (8 ∷ []) ∷ [])
unfolding zero_key one_key index_of
one_after_the_other = refl

the_other_after_the_one : (exchanged (exchanged (Values ((1 ∷ []) ∷ (2 ∷ []) ∷ [])) (BackKey one_key (Some (8 ∷ [])))).0 (BackKey zero_key (Some (7 ∷ [])))).0 ≡ Values ((7 ∷ []) ∷ (8 ∷ []) ∷ [])
unfolding zero_key one_key index_of
the_other_after_the_one = refl

a_prefix_has_its_stored_place : place_of_op trie (Delete (12 ∷ 0 ∷ 0 ∷ 0 ∷ 10 ∷ 31 ∷ 2 ∷ 3 ∷ [])) ≡ AtKey (12 ∷ 0 ∷ 0 ∷ 0 ∷ 10 ∷ 16 ∷ 0 ∷ 0 ∷ [])
unfolding trie attr_of index_of
a_prefix_has_its_stored_place = refl

a_prefix_too_long_is_nowhere : place_of_op trie (Delete (33 ∷ 0 ∷ 0 ∷ 0 ∷ 10 ∷ 1 ∷ 2 ∷ 3 ∷ [])) ≡ Nowhere
unfolding trie attr_of index_of
a_prefix_too_long_is_nowhere = refl

both_ends_of_a_queue_are_one_place : place_of queue (Ends true false None None) ≡ Whole
both_ends_of_a_queue_are_one_place = refl

-- what the update above did again: the new value, at the same index
an_update_is_done_again_at_its_index : forth_of (record { contents = Values ((7 ∷ []) ∷ []); reply = Done; back = BackKey zero_key (Some (0 ∷ [])) }) ≡ BackKey zero_key (Some (7 ∷ []))
unfolding zero_key index_of
an_update_is_done_again_at_its_index = refl

an_update_elsewhere_gives_back_the_same : map_step two (exchanged (Values ((1 ∷ []) ∷ (2 ∷ []) ∷ [])) (BackKey zero_key (Some (7 ∷ [])))).0 (Update one_key (8 ∷ []) 0)
    ≡ goes (Values ((7 ∷ []) ∷ (8 ∷ []) ∷ [])) Done (BackKey one_key (Some (2 ∷ [])))
unfolding two attr_of zero_key one_key index_of
an_update_elsewhere_gives_back_the_same = refl

an_absent_key_is_added : (m : ByKey (List ℕ)) → map.get m (3 ∷ []) ≡ None → adds_key pair (Entries m) (Update (3 ∷ []) (30 ∷ []) 0) ≡ true
unfolding pair attr_of
an_absent_key_is_added m absent = rw absent refl

a_present_key_asks_for_no_room : (m : ByKey (List ℕ)) → map.get m (3 ∷ []) ≡ Some (9 ∷ []) → adds_key pair (Entries m) (Update (3 ∷ []) (30 ∷ []) 0) ≡ false
unfolding pair attr_of
a_present_key_asks_for_no_room m there = rw there refl

two_entries_fill_a_hash_of_two : (m : ByKey (List ℕ)) → map.len m ≡ 2 → is_full pair (Entries m) ≡ true
unfolding pair attr_of
two_entries_fill_a_hash_of_two m two = rw two refl

a_value_stands_at_its_index : value_at (Values ((7 ∷ []) ∷ (8 ∷ []) ∷ [])) (AtIndex 1) ≡ Some (8 ∷ [])
a_value_stands_at_its_index = refl

nothing_stands_past_the_end : value_at (Values ((7 ∷ []) ∷ [])) (AtIndex 1) ≡ None
nothing_stands_past_the_end = refl

an_id_stands_at_its_index : id_at (Slots (None ∷ Some 3 ∷ [])) (AtIndex 1) ≡ Some 3
an_id_stands_at_its_index = refl

-- ---- walks and dumps
a_walk_goes_over_empty_slots_too : keys_of (Slots (None ∷ Some 3 ∷ [])) ≡ zero_key ∷ one_key ∷ []
unfolding zero_key one_key key_of_index
a_walk_goes_over_empty_slots_too = refl

a_dump_lists_the_filled_slots : dumped_keys (Slots (None ∷ Some 3 ∷ [])) ≡ one_key ∷ []
unfolding one_key key_of_index
a_dump_lists_the_filled_slots = refl

an_array_of_two_is_walked : Walks two (Values ((7 ∷ []) ∷ (8 ∷ []) ∷ [])) None (zero_key ∷ one_key ∷ [])
unfolding two attr_of zero_key one_key index_of key_of_index
an_array_of_two_is_walked = (refl, (refl, refl))

stored_keys_come_in_the_order_of_their_bytes : (m : ByKey (List ℕ)) → ComesBefore (Entries m) (1 ∷ 9 ∷ []) (2 ∷ 0 ∷ [])
stored_keys_come_in_the_order_of_their_bytes m = refl
