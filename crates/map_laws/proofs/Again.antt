-- What does an accepted operation again.
use Rattle.std.proofs.Common.{◌≡◌, ℕ, Bool, true, false, not, ◌==◌, if◌then◌else◌, List, length, Option, Some, None, is_some, Ok, Err, nat_le, refl, ap, subst}
use Rattle.std.specs.FinMap as map
use Rattle.bt_mapkind.specs.declared.attr.MapAttr.{MapAttr}
use Rattle.bt_mapkind.specs.declared.errno.Errno.TheVariants.{ENOENT, E2BIG, EEXIST, EINVAL}
use Rattle.bt_mapkind.specs.declared.exchange.Back.{Back}
use Rattle.bt_mapkind.specs.declared.exchange.Back.TheVariants.{Key}
use Rattle.bt_mapkind.specs.declared.request.MapOp.{MapOp}
use Rattle.bt_mapkind.specs.declared.request.MapOp.TheVariants.{Update, Delete, Push, Pop, Store, Atomic, SetLink}
use Rattle.bt_mapkind.specs.declared.request.MapReply.{MapReply}
use Rattle.bt_mapkind.specs.declared.request.MapReply.TheVariants.{Done}
use Rattle.bt_mapkind.specs.declared.atomic.AtomicOp.{AtomicOp}
use Rattle.bt_mapkind.specs.declared.atomic.AtomicSize.{AtomicSize}
use Rattle.bt_mapkind.specs.Atomic.{size_in_bytes}
use Rattle.bt_mapkind.specs.Contents.{ByKey, Contents, Values, Entries, Items, Slots, Links}
use Rattle.bt_mapkind.specs.Prefix.{address}
use Rattle.bt_mapkind.specs.Sizes.{pair_fits, key_fits, range_fits}
use Rattle.bt_mapkind.specs.Step.{Changed, goes, is_flag, is_past, part_fault, full_errno, entry_set, entry_updated, entry_deleted, entry_at, entry_stored, entry_combined, map_step}
use Rattle.map_laws.specs.Place.{is_put, is_delete}
use Rattle.map_laws.specs.Laws.{forth_of, PutsAgain}
use Rattle.bt_mapkind.proofs.Keyed.{get-put_under_same}
use Rattle.bt_mapkind.proofs.Turning.{refused, passes, refuses_not, same_changed}
use Rattle.map_laws.proofs.Room.{by_key, there_is_no}

put_by : (contents : Contents) (reply : MapReply) (back : Back) (changed : Changed) (b : Bool) → goes contents reply back ≡ Ok changed → is_put (forth_of (record { contents = contents; reply = reply; back = back })) ≡ b → is_put (forth_of changed) ≡ b
put_by contents reply back changed b e p = subst (λ (x : Changed). is_put (forth_of x) ≡ b) (same_changed _ _ (goes contents reply back) refl e) p

some_put : (key : List ℕ) (o : Option (List ℕ)) (x : Option (List ℕ)) → o ≡ x → is_put (Key key o) ≡ is_some x
some_put key o None e = ap (λ (y : Option (List ℕ)). is_put (Key key y)) e
some_put key o (Some v) e = ap (λ (y : Option (List ℕ)). is_put (Key key y)) e

set_again : (m : ByKey (List ℕ)) (key value : List ℕ) (reply : MapReply) (changed : Changed) → entry_set m key value reply ≡ Ok changed → is_put (forth_of changed) ≡ true
set_again m key value reply changed e = put_by (Entries (map.insert m key value)) reply (Key key (map.get m key)) changed true e (some_put key _ (Some value) (get-put_under_same m key (Some value)))

updated_again : (a : MapAttr) (m : ByKey (List ℕ)) (stored : Option (List ℕ)) (value : List ℕ) (flag : ℕ) (changed : Changed) → entry_updated a m stored value flag ≡ Ok changed → is_put (forth_of changed) ≡ true
updated_again a m None value flag changed e = refused e
updated_again a m (Some key) value flag changed e = cases (map.contains_key m key) e
  where
    cases : (there : Bool)
        → (if there then (if flag == 1 then Err EEXIST else entry_set m key value Done) else
        if flag == 2 then Err ENOENT else
        if nat_le a.max_entries (map.len m) then Err (full_errno a) else
        entry_set m key value Done) ≡ Ok changed
        → is_put (forth_of changed) ≡ true
    cases true e = set_again m key value Done changed (refuses_not (flag == 1) EEXIST _ changed e).1
    cases false e =
        let x = refuses_not (flag == 2) ENOENT _ changed e in
        set_again m key value Done changed (refuses_not (nat_le a.max_entries (map.len m)) (full_errno a) _ changed x.1).1

deleted_again : (m : ByKey (List ℕ)) (stored : Option (List ℕ)) (changed : Changed) → entry_deleted m stored ≡ Ok changed → is_put (forth_of changed) ≡ false
deleted_again m None changed e = refused e
deleted_again m (Some key) changed e = cases (map.contains_key m key) e
  where
    cases : (there : Bool) → (if there then goes (Entries (map.remove m key)) Done (Key key (map.get m key)) else Err ENOENT) ≡ Ok changed → is_put (forth_of changed) ≡ false
    cases true e = put_by (Entries (map.remove m key)) Done (Key key (map.get m key)) changed false e (some_put key _ None (get-put_under_same m key None))
    cases false e = refused e

stored_again : (a : MapAttr) (m : ByKey (List ℕ)) (x : Option (List ℕ × List ℕ)) (offset : ℕ) (bytes : List ℕ) (changed : Changed) → entry_stored a m x offset bytes ≡ Ok changed → is_put (forth_of changed) ≡ true
stored_again a m None offset bytes changed e = refused e
stored_again a m (Some old) offset bytes changed e = set_again m old.0 _ _ changed (passes (range_fits a offset (length bytes)) EINVAL _ changed e).1

combined_again : (a : MapAttr) (m : ByKey (List ℕ)) (x : Option (List ℕ × List ℕ)) (offset : ℕ) (size : AtomicSize) (op : AtomicOp) (operand : ℕ) (changed : Changed) → entry_combined a m x offset size op operand ≡ Ok changed → is_put (forth_of changed) ≡ true
combined_again a m None offset size op operand changed e = refused e
combined_again a m (Some old) offset size op operand changed e = set_again m old.0 _ _ changed (passes (range_fits a offset (size_in_bytes size)) EINVAL _ changed e).1

entries_again : (a : MapAttr) (m : ByKey (List ℕ)) (op : MapOp) (changed : Changed) → map_step a (Entries m) op ≡ Ok changed → is_put (forth_of changed) ≡ not (is_delete op)
entries_again a m (Update key value flag) changed e =
    let f = passes (is_flag flag) EINVAL _ changed e in
    updated_again a m (address a key) value flag changed (passes (pair_fits a key value) EINVAL _ changed f.1).1
entries_again a m (Delete key) changed e = deleted_again m (address a key) changed (passes (key_fits a key) EINVAL _ changed e).1
entries_again a m (Push value flag) changed e = refused e
entries_again a m Pop changed e = refused e
entries_again a m (Store key offset bytes) changed e = stored_again a m (entry_at m (address a key)) offset bytes changed (passes (key_fits a key) EINVAL _ changed e).1
entries_again a m (Atomic key offset size op operand) changed e = combined_again a m (entry_at m (address a key)) offset size op operand changed (passes (key_fits a key) EINVAL _ changed e).1
entries_again a m (SetLink key id flag) changed e = refused e

values_again : (a : MapAttr) (vs : List (List ℕ)) (op : MapOp) (changed : Changed) → map_step a (Values vs) op ≡ Ok changed → is_put (forth_of changed) ≡ not (is_delete op)
values_again a vs (Update key value flag) changed e =
    let f = passes (is_flag flag) EINVAL _ changed e in
    let p = passes (pair_fits a key value) EINVAL _ changed f.1 in
    let i = refuses_not (is_past vs key) E2BIG _ changed p.1 in
    put_by _ _ _ changed true (refuses_not (flag == 1) EEXIST _ changed i.1).1 refl
values_again a vs (Delete key) changed e = refused e
values_again a vs (Push value flag) changed e = refused e
values_again a vs Pop changed e = refused e
values_again a vs (Store key offset bytes) changed e = put_by _ _ _ changed true (there_is_no (part_fault a vs key offset (length bytes)) _ changed e).1 refl
values_again a vs (Atomic key offset size op operand) changed e = put_by _ _ _ changed true (there_is_no (part_fault a vs key offset (size_in_bytes size)) _ changed e).1 refl
values_again a vs (SetLink key id flag) changed e = refused e

pub puts_again : (a : MapAttr) (c : Contents) (op : MapOp) (changed : Changed) → PutsAgain a c op changed
puts_again a (Values vs) op changed w k e = values_again a vs op changed e
puts_again a (Entries m) op changed w k e = entries_again a m op changed e
puts_again a (Items xs) op changed w k e = let other = by_key _ _ w.shape k in cc
puts_again a (Slots ls) op changed w k e = let other = by_key _ _ w.shape k in cc
puts_again a (Links m) op changed w k e = let other = by_key _ _ w.shape k in cc
