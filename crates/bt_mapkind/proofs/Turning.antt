-- Every operation that the table accepts is the turning of an exchange that fits.
use Rattle.std.proofs.Common.{◌≡◌, ℕ, ◌+◌, ◌<◌, ◌≤◌, Bool, true, false, not, ◌==◌, ◌||◌, if◌then◌else◌, List, [], ◌∷◌, ◌++◌, length, get_or, Option, Some, None, is_some, Ok, Err, nat_lt, nat_le, refl, ap, sym, subst, ◌∙◌, arith, length-append, length-take, length-drop, append-nil}
use Rattle.std.proofs.lemmas.Bool.Decides.{nat_tests}
use Rattle.std.proofs.lemmas.List.Elements.{All-get_or}
use Rattle.std.specs.FinMap as map
use Rattle.bt_mapkind.specs.declared.attr.MapAttr.{MapAttr}
use Rattle.bt_mapkind.specs.declared.errno.Errno.{Errno}
use Rattle.bt_mapkind.specs.declared.errno.Errno.TheVariants.{ENOENT, E2BIG, EEXIST, EINVAL}
use Rattle.bt_mapkind.specs.declared.atomic.AtomicOp.{AtomicOp}
use Rattle.bt_mapkind.specs.declared.atomic.AtomicSize.{AtomicSize}
use Rattle.bt_mapkind.specs.declared.atomic.AtomicSize.TheVariants.{Word, DoubleWord}
use Rattle.bt_mapkind.specs.declared.exchange.Back.{Back}
use Rattle.bt_mapkind.specs.declared.exchange.Back.TheVariants.{Key, Ends, Link}
use Rattle.bt_mapkind.specs.declared.request.MapOp.{MapOp}
use Rattle.bt_mapkind.specs.declared.request.MapOp.TheVariants.{Update, Delete, Push, Pop, Store, Atomic, SetLink}
use Rattle.bt_mapkind.specs.declared.request.MapReply.{MapReply}
use Rattle.bt_mapkind.specs.Attributes.{is_stack}
use Rattle.bt_mapkind.specs.Contents.{Contents, ByKey, Values, Entries, Items, Slots, Links}
use Rattle.bt_mapkind.specs.Index.{index_of}
use Rattle.bt_mapkind.specs.Sizes.{key_fits, value_fits, pair_fits, range_fits}
use Rattle.bt_mapkind.specs.declared.request.MapReply.TheVariants.{Done}
use Rattle.bt_mapkind.specs.Prefix.{address}
use Rattle.bt_mapkind.specs.Step.{Changed, Step, goes, unless, is_flag, is_past, part_fault, value_set, full_errno, entry_set, entry_updated, entry_deleted, with_key, entry_at, entry_stored, entry_combined, item_pushed, oldest_replaced, oldest_popped, newest_taken, newest_popped, slot_set, slot_cleared}
use Rattle.bt_mapkind.specs.Well.{IsWell}
use Rattle.bt_mapkind.specs.Exchange.{exchange_fits, exchanged, has_room, newest, rear_of}
use Rattle.bt_mapkind.specs.Laws.{IsTurnable, IsTurningOf, ChangesByTurning, ChangesBack}
use Rattle.bt_mapkind.specs.Atomic.{overwritten, part_of, size_in_bytes, bytes_of, bytes_after}
use Rattle.bt_mapkind.proofs.Prefixes.{address_stands}
use Rattle.bt_mapkind.proofs.Ends.{fits_of_ends}
use Rattle.bt_mapkind.proofs.Twice.{twice}
use Rattle.bt_mapkind.proofs.Stays.{stays, HasValueSize, key_fits_of, key_size_of, value_fits_of, both_true, and_true, below_of}

-- a step that is refused accepts nothing
pub refused : {P : Type 0} {errno : Errno} {changed : Changed} → Err errno ≡ Ok changed → P
refused e = cc

-- a test on the way to an accepted step: the refused branch is not taken
pub passes : (test : Bool) (errno : Errno) (step : Step) (changed : Changed) → (if not test then Err errno else step) ≡ Ok changed → (test ≡ true) × (step ≡ Ok changed)
passes true errno step changed e = (refl, e)
passes false errno step changed e = refused e

pub refuses_not : (test : Bool) (errno : Errno) (step : Step) (changed : Changed) → (if test then Err errno else step) ≡ Ok changed → (test ≡ false) × (step ≡ Ok changed)
refuses_not false errno step changed e = (refl, e)
refuses_not true errno step changed e = refused e

pub same_changed : (x y : Changed) (step : Step) → step ≡ Ok x → step ≡ Ok y → x ≡ y
same_changed x y step e f = cc

-- an exchange whose turning the step is
pub turning_of : (a : MapAttr) (c : Contents) (forth : Back) (contents : Contents) (reply : MapReply) (back : Back) (changed : Changed) → goes contents reply back ≡ Ok changed → exchange_fits a c forth ≡ true → exchanged c forth ≡ (contents, back) → IsTurningOf a c changed
turning_of a c forth contents reply back changed e fits turned =
    subst (IsTurningOf a c) (same_changed _ _ (goes contents reply back) refl e) (record { forth = forth; fits = fits; turned = turned })

below_of_not_past : (m n : ℕ) → nat_le m n ≡ false → nat_lt n m ≡ true
below_of_not_past m n e = grind (arith, nat_tests)

-- what does not stand against an accepted step
there_is_no : (fault : Option Errno) (step : Step) (changed : Changed) → unless fault step ≡ Ok changed → (fault ≡ None) × (step ≡ Ok changed)
there_is_no None step changed e = (refl, e)
there_is_no (Some errno) step changed e = refused e

-- ---- an array
-- a part of a value can be written
pub record IsPart (a : MapAttr) (vs : List (List ℕ)) (key : List ℕ) (offset size : ℕ) : Type 0 where
  pub key_size : key_fits a key ≡ true
  pub there : is_past vs key ≡ false
  pub range : range_fits a offset size ≡ true

pub no_part_fault : (a : MapAttr) (vs : List (List ℕ)) (key : List ℕ) (offset size : ℕ) → part_fault a vs key offset size ≡ None → IsPart a vs key offset size
no_part_fault a vs key offset size e = cases (key_fits a key) (is_past vs key) (range_fits a offset size) refl refl refl e
  where
    cases : (k p r : Bool) → key_fits a key ≡ k → is_past vs key ≡ p → range_fits a offset size ≡ r
        → (if not k then Some EINVAL else if p then Some ENOENT else if not r then Some EINVAL else None) ≡ None → IsPart a vs key offset size
    cases true false true k p r e = record { key_size = k; there = p; range = r }
    cases true false false k p r e = cc
    cases true true rest k p r e = cc
    cases false past rest k p r e = cc

value_turning : (a : MapAttr) (vs : List (List ℕ)) (key value : List ℕ) (reply : MapReply) (changed : Changed) → key_fits a key ≡ true → value_fits a value ≡ true → is_past vs key ≡ false → value_set vs key value reply ≡ Ok changed → IsTurningOf a (Values vs) changed
value_turning a vs key value reply changed k v within e =
    turning_of a (Values vs) (Key key (Some value)) _ reply _ changed e (and_true _ _ (and_true _ _ k v) (below_of_not_past _ _ within)) refl

pub length-overwritten : (a : MapAttr) (old : List ℕ) (offset : ℕ) (bytes : List ℕ) → HasValueSize a old → range_fits a offset (length bytes) ≡ true → HasValueSize a (overwritten old offset bytes)
length-overwritten a old offset bytes size range =
    let within : offset + length bytes ≤ length old = grind (arith, nat_tests, range, size) in
    simp (length-append, length-take, length-drop) (omega (arith, size))

length-bytes_of : (size : AtomicSize) (n : ℕ) → length (bytes_of size n) ≡ size_in_bytes size
unfolding bytes_of
length-bytes_of Word n = refl
length-bytes_of DoubleWord n = refl

pub length-combined : (a : MapAttr) (old : List ℕ) (offset : ℕ) (size : AtomicSize) (op : AtomicOp) (operand : ℕ) → HasValueSize a old → range_fits a offset (size_in_bytes size) ≡ true → HasValueSize a (overwritten old offset (bytes_after op size operand (part_of old offset (size_in_bytes size))))
length-combined a old offset size op operand is range =
    length-overwritten a old offset _ is (ap (range_fits a offset) (length-bytes_of size _) ∙ range)

pub old_size : (a : MapAttr) (vs : List (List ℕ)) (key : List ℕ) → is_past vs key ≡ false → IsWell a (Values vs) → HasValueSize a (get_or vs (index_of key) [])
old_size a vs key within w = All-get_or (HasValueSize a) vs (index_of key) [] (below_of _ _ (below_of_not_past _ _ within)) w.sizes.1

values_turning : (a : MapAttr) (vs : List (List ℕ)) (op : MapOp) (changed : Changed) → ChangesByTurning a (Values vs) op changed
values_turning a vs (Update key value flag) changed w e =
    let f = passes (is_flag flag) EINVAL _ changed e in
    let p = passes (pair_fits a key value) EINVAL _ changed f.1 in
    let i = refuses_not (is_past vs key) E2BIG _ changed p.1 in
    let n = refuses_not (flag == 1) EEXIST _ changed i.1 in
    let s = both_true (key_fits a key) _ p.0 in
    value_turning a vs key value _ changed s.0 s.1 i.0 n.1
values_turning a vs (Delete key) changed w e = refused e
values_turning a vs (Push value flag) changed w e = refused e
values_turning a vs Pop changed w e = refused e
values_turning a vs (Store key offset bytes) changed w e =
    let p = there_is_no (part_fault a vs key offset (length bytes)) _ changed e in
    let n = no_part_fault a vs key offset (length bytes) p.0 in
    value_turning a vs key _ _ changed n.key_size (value_fits_of a _ (length-overwritten a _ offset bytes (old_size a vs key n.there w) n.range)) n.there p.1
values_turning a vs (Atomic key offset size op operand) changed w e =
    let p = there_is_no (part_fault a vs key offset (size_in_bytes size)) _ changed e in
    let n = no_part_fault a vs key offset (size_in_bytes size) p.0 in
    value_turning a vs key _ _ changed n.key_size (value_fits_of a _ (length-combined a _ offset size op operand (old_size a vs key n.there w) n.range)) n.there p.1
values_turning a vs (SetLink key id flag) changed w e = refused e

-- ---- a hash or an LPM trie
-- the exchange that puts a value under an address
entry_turning : (a : MapAttr) (m : ByKey (List ℕ)) (key stored value : List ℕ) (reply : MapReply) (changed : Changed) → key_fits a key ≡ true → value_fits a value ≡ true → address a key ≡ Some stored → has_room a m stored ≡ true → entry_set m stored value reply ≡ Ok changed → IsTurningOf a (Entries m) changed
entry_turning a m key stored value reply changed k v is room e =
    let s = address_stands a key stored is in
    turning_of a (Entries m) (Key stored (Some value)) _ reply _ changed e
    (and_true _ _ (and_true _ _ (and_true _ _ (key_fits_of a stored (s.key_size ∙ key_size_of a key k)) v) s.stands) room) refl

pub there_has_room : {X : Type 0} (a : MapAttr) (m : ByKey X) (key : List ℕ) → map.contains_key m key ≡ true → has_room a m key ≡ true
there_has_room a m key e = rw e refl

pub absent_has_room : {X : Type 0} (a : MapAttr) (m : ByKey X) (key : List ℕ) → nat_le a.max_entries (map.len m) ≡ false → has_room a m key ≡ true
absent_has_room a m key e = of (map.contains_key m key) (below_of_not_past a.max_entries (map.len m) e)
  where
    of : (there : Bool) → nat_lt (map.len m) a.max_entries ≡ true → there || nat_lt (map.len m) a.max_entries ≡ true
    of true h = refl
    of false h = h

update_turning : (a : MapAttr) (m : ByKey (List ℕ)) (key value : List ℕ) (flag : ℕ) (stored : Option (List ℕ)) (changed : Changed) → key_fits a key ≡ true → value_fits a value ≡ true → address a key ≡ stored → entry_updated a m stored value flag ≡ Ok changed → IsTurningOf a (Entries m) changed
update_turning a m key value flag None changed k v is e = refused e
update_turning a m key value flag (Some stored) changed k v is e = cases (map.contains_key m stored) refl e
  where
    cases : (there : Bool) → map.contains_key m stored ≡ there
        → (if there then (if flag == 1 then Err EEXIST else entry_set m stored value Done) else
        if flag == 2 then Err ENOENT else
        if nat_le a.max_entries (map.len m) then Err (full_errno a) else
        entry_set m stored value Done) ≡ Ok changed
        → IsTurningOf a (Entries m) changed
    cases true there e =
        let n = refuses_not (flag == 1) EEXIST _ changed e in
        entry_turning a m key stored value _ changed k v is (there_has_room a m stored there) n.1
    cases false absent e =
        let x = refuses_not (flag == 2) ENOENT _ changed e in
        let r = refuses_not (nat_le a.max_entries (map.len m)) (full_errno a) _ changed x.1 in
        entry_turning a m key stored value _ changed k v is (absent_has_room a m stored r.0) r.1

delete_turning : (a : MapAttr) (m : ByKey (List ℕ)) (key : List ℕ) (stored : Option (List ℕ)) (changed : Changed) → key_fits a key ≡ true → address a key ≡ stored → entry_deleted m stored ≡ Ok changed → IsTurningOf a (Entries m) changed
delete_turning a m key None changed k is e = refused e
delete_turning a m key (Some stored) changed k is e = cases (map.contains_key m stored) e
  where
    cases : (there : Bool) → (if there then goes (Entries (map.remove m stored)) Done (Key stored (map.get m stored)) else Err ENOENT) ≡ Ok changed → IsTurningOf a (Entries m) changed
    cases true e =
        let s = address_stands a key stored is in
        turning_of a (Entries m) (Key stored None) _ Done _ changed e (and_true _ _ (key_fits_of a stored (s.key_size ∙ key_size_of a key k)) s.stands) refl
    cases false e = refused e

-- the entry at an address is there
pub record IsThere (m : ByKey (List ℕ)) (stored : Option (List ℕ)) (e : List ℕ × List ℕ) : Type 0 where
  pub at : stored ≡ Some e.0
  pub is : map.get m e.0 ≡ Some e.1

with_key_there : (m : ByKey (List ℕ)) (key : List ℕ) (value : Option (List ℕ)) (e : List ℕ × List ℕ) → map.get m key ≡ value → with_key key value ≡ Some e → IsThere m (Some key) e
with_key_there m key None e is h = cc
with_key_there m key (Some value) e is h = subst (IsThere m (Some key)) (same (key, value) e h) (record { at = refl; is = is })
  where
    same : (x y : List ℕ × List ℕ) → Some x ≡ Some y → x ≡ y
    same x y e = cc

pub entry_there : (m : ByKey (List ℕ)) (stored : Option (List ℕ)) (e : List ℕ × List ℕ) → entry_at m stored ≡ Some e → IsThere m stored e
entry_there m None e h = cc
entry_there m (Some key) e h = with_key_there m key (map.get m key) e refl h

store_turning : (a : MapAttr) (m : ByKey (List ℕ)) (key : List ℕ) (offset : ℕ) (bytes : List ℕ) (e : Option (List ℕ × List ℕ)) (changed : Changed) → IsWell a (Entries m) → key_fits a key ≡ true → entry_at m (address a key) ≡ e → entry_stored a m e offset bytes ≡ Ok changed → IsTurningOf a (Entries m) changed
store_turning a m key offset bytes None changed w k is e = refused e
store_turning a m key offset bytes (Some old) changed w k is e =
    let r = passes (range_fits a offset (length bytes)) EINVAL _ changed e in
    let t = entry_there m (address a key) old is in
    let size = (w.sizes.1 old.0 old.1 t.is).value_size in
    entry_turning a m key old.0 _ _ changed k (value_fits_of a _ (length-overwritten a old.1 offset bytes size r.0)) t.at (there_has_room a m old.0 (ap is_some t.is)) r.1

combine_turning : (a : MapAttr) (m : ByKey (List ℕ)) (key : List ℕ) (offset : ℕ) (size : AtomicSize) (op : AtomicOp) (operand : ℕ) (e : Option (List ℕ × List ℕ)) (changed : Changed) → IsWell a (Entries m) → key_fits a key ≡ true → entry_at m (address a key) ≡ e → entry_combined a m e offset size op operand ≡ Ok changed → IsTurningOf a (Entries m) changed
combine_turning a m key offset size op operand None changed w k is e = refused e
combine_turning a m key offset size op operand (Some old) changed w k is e =
    let r = passes (range_fits a offset (size_in_bytes size)) EINVAL _ changed e in
    let t = entry_there m (address a key) old is in
    let sized = (w.sizes.1 old.0 old.1 t.is).value_size in
    entry_turning a m key old.0 _ _ changed k (value_fits_of a _ (length-combined a old.1 offset size op operand sized r.0)) t.at (there_has_room a m old.0 (ap is_some t.is)) r.1

entries_turning : (a : MapAttr) (m : ByKey (List ℕ)) (op : MapOp) (changed : Changed) → ChangesByTurning a (Entries m) op changed
entries_turning a m (Update key value flag) changed w e =
    let f = passes (is_flag flag) EINVAL _ changed e in
    let p = passes (pair_fits a key value) EINVAL _ changed f.1 in
    let s = both_true (key_fits a key) _ p.0 in
    update_turning a m key value flag (address a key) changed s.0 s.1 refl p.1
entries_turning a m (Delete key) changed w e =
    let k = passes (key_fits a key) EINVAL _ changed e in
    delete_turning a m key (address a key) changed k.0 refl k.1
entries_turning a m (Push value flag) changed w e = refused e
entries_turning a m Pop changed w e = refused e
entries_turning a m (Store key offset bytes) changed w e =
    let k = passes (key_fits a key) EINVAL _ changed e in
    store_turning a m key offset bytes (entry_at m (address a key)) changed w k.0 refl k.1
entries_turning a m (Atomic key offset size op operand) changed w e =
    let k = passes (key_fits a key) EINVAL _ changed e in
    combine_turning a m key offset size op operand (entry_at m (address a key)) changed w k.0 refl k.1
entries_turning a m (SetLink key id flag) changed w e = refused e

-- ---- a queue or a stack
push_turning : (a : MapAttr) (xs : List (List ℕ)) (value : List ℕ) (changed : Changed) → value_fits a value ≡ true → length xs < a.max_entries → item_pushed xs value ≡ Ok changed → IsTurningOf a (Items xs) changed
push_turning a xs value changed v room e =
    turning_of a (Items xs) (Ends false false None (Some value)) _ Done _ changed e
    (fits_of_ends a xs false false None (Some value) (record { there = omega arith; front_size = refl; rear_size = v; room = omega arith })) refl

replace_turning : (a : MapAttr) (xs : List (List ℕ)) (value : List ℕ) (changed : Changed) → value_fits a value ≡ true → length xs ≤ a.max_entries → oldest_replaced xs value ≡ Ok changed → IsTurningOf a (Items xs) changed
replace_turning a [] value changed v room e = refused e
replace_turning a (x ∷ xs) value changed v room e =
    turning_of a (Items (x ∷ xs)) (Ends true false None (Some value)) _ Done _ changed e
    (fits_of_ends a (x ∷ xs) true false None (Some value) (record { there = omega arith; front_size = refl; rear_size = v; room = omega arith })) refl

oldest_turning : (a : MapAttr) (xs : List (List ℕ)) (changed : Changed) → length xs ≤ a.max_entries → oldest_popped xs ≡ Ok changed → IsTurningOf a (Items xs) changed
oldest_turning a [] changed room e = refused e
oldest_turning a (x ∷ xs) changed room e =
    turning_of a (Items (x ∷ xs)) (Ends true false None None) _ _ _ changed e
    (fits_of_ends a (x ∷ xs) true false None None (record { there = omega arith; front_size = refl; rear_size = refl; room = omega arith }))
    (ap (λ l. (Items l, Ends false false (Some x) None)) (append-nil xs))

taken_turning : (a : MapAttr) (xs : List (List ℕ)) (item : Option (List ℕ)) (others : List (List ℕ)) (changed : Changed) → 1 ≤ length xs → length xs ≤ a.max_entries → rear_of true xs ≡ (item, others) → newest_taken item others ≡ Ok changed → IsTurningOf a (Items xs) changed
taken_turning a xs None others changed some room is e = refused e
taken_turning a xs (Some item) others changed some room is e =
    turning_of a (Items xs) (Ends false true None None) _ _ _ changed e
    (fits_of_ends a xs false true None None (record { there = omega arith; front_size = refl; rear_size = refl; room = omega arith }))
    (ap (λ (r : Option (List ℕ) × List (List ℕ)). (Items (r.1 ++ []), Ends false false None r.0)) is ∙ ap (λ l. (Items l, Ends false false None (Some item))) (append-nil others))

newest_turning : (a : MapAttr) (xs : List (List ℕ)) (changed : Changed) → length xs ≤ a.max_entries → newest_popped xs ≡ Ok changed → IsTurningOf a (Items xs) changed
newest_turning a [] changed room e = refused e
newest_turning a (x ∷ xs) changed room e = taken_turning a (x ∷ xs) (newest x xs).0 (newest x xs).1 changed (omega arith) room refl e

pop_turning : (a : MapAttr) (xs : List (List ℕ)) (stack : Bool) (changed : Changed) → length xs ≤ a.max_entries → (if stack then newest_popped xs else oldest_popped xs) ≡ Ok changed → IsTurningOf a (Items xs) changed
pop_turning a xs true changed room e = newest_turning a xs changed room e
pop_turning a xs false changed room e = oldest_turning a xs changed room e

pushed_turning : (a : MapAttr) (xs : List (List ℕ)) (value : List ℕ) (flag : ℕ) (room : Bool) (changed : Changed) → value_fits a value ≡ true → length xs ≤ a.max_entries → nat_lt (length xs) a.max_entries ≡ room → (if room then item_pushed xs value else if flag == 2 then oldest_replaced xs value else Err E2BIG) ≡ Ok changed → IsTurningOf a (Items xs) changed
pushed_turning a xs value flag true changed v w is e = push_turning a xs value changed v (below_of _ _ is) e
pushed_turning a xs value flag false changed v w is e = of (flag == 2) e
  where
    of : (exist : Bool) → (if exist then oldest_replaced xs value else Err E2BIG) ≡ Ok changed → IsTurningOf a (Items xs) changed
    of true e = replace_turning a xs value changed v w e
    of false e = refused e

items_turning : (a : MapAttr) (xs : List (List ℕ)) (op : MapOp) (changed : Changed) → ChangesByTurning a (Items xs) op changed
items_turning a xs (Update key value flag) changed w e = refused e
items_turning a xs (Delete key) changed w e = refused e
items_turning a xs (Push value flag) changed w e =
    let f = passes (is_flag flag) EINVAL _ changed e in
    let v = passes (value_fits a value) EINVAL _ changed f.1 in
    let n = refuses_not (flag == 1) EINVAL _ changed v.1 in
    pushed_turning a xs value flag (nat_lt (length xs) a.max_entries) changed v.0 w.sizes.0 refl n.1
items_turning a xs Pop changed w e = pop_turning a xs (is_stack a.kind) changed w.sizes.0 e
items_turning a xs (Store key offset bytes) changed w e = refused e
items_turning a xs (Atomic key offset size op operand) changed w e = refused e
items_turning a xs (SetLink key id flag) changed w e = refused e

-- ---- maps of ids
slot_turning : (a : MapAttr) (ls : List (Option ℕ)) (key : List ℕ) (id : Option ℕ) (changed : Changed) → key_fits a key ≡ true → is_past ls key ≡ false → slot_set ls key id ≡ Ok changed → IsTurningOf a (Slots ls) changed
slot_turning a ls key id changed k within e =
    turning_of a (Slots ls) (Link key id) _ Done _ changed e (and_true _ _ k (below_of_not_past _ _ within)) refl

clear_turning : (a : MapAttr) (ls : List (Option ℕ)) (key : List ℕ) (id : Option ℕ) (changed : Changed) → key_fits a key ≡ true → is_past ls key ≡ false → slot_cleared ls key id ≡ Ok changed → IsTurningOf a (Slots ls) changed
clear_turning a ls key None changed k within e = refused e
clear_turning a ls key (Some id) changed k within e = slot_turning a ls key None changed k within e

slots_turning : (a : MapAttr) (ls : List (Option ℕ)) (op : MapOp) (changed : Changed) → ChangesByTurning a (Slots ls) op changed
slots_turning a ls (Update key value flag) changed w e = refused e
slots_turning a ls (Delete key) changed w e =
    let k = passes (key_fits a key) EINVAL _ changed e in
    let i = refuses_not (is_past ls key) E2BIG _ changed k.1 in
    clear_turning a ls key (get_or ls (index_of key) None) changed k.0 i.0 i.1
slots_turning a ls (Push value flag) changed w e = refused e
slots_turning a ls Pop changed w e = refused e
slots_turning a ls (Store key offset bytes) changed w e = refused e
slots_turning a ls (Atomic key offset size op operand) changed w e = refused e
slots_turning a ls (SetLink key id flag) changed w e =
    let k = passes (key_fits a key) EINVAL _ changed e in
    let f = passes (flag == 0) EINVAL _ changed k.1 in
    let i = refuses_not (is_past ls key) E2BIG _ changed f.1 in
    slot_turning a ls key (Some id) changed k.0 i.0 i.1

link_turning : (a : MapAttr) (m : ByKey ℕ) (key : List ℕ) (id : ℕ) (changed : Changed) → key_fits a key ≡ true → has_room a m key ≡ true → goes (Links (map.insert m key id)) Done (Link key (map.get m key)) ≡ Ok changed → IsTurningOf a (Links m) changed
link_turning a m key id changed k room e = turning_of a (Links m) (Link key (Some id)) _ Done _ changed e (and_true _ _ k room) refl

links_turning : (a : MapAttr) (m : ByKey ℕ) (op : MapOp) (changed : Changed) → ChangesByTurning a (Links m) op changed
links_turning a m (Update key value flag) changed w e = refused e
links_turning a m (Delete key) changed w e = let k = passes (key_fits a key) EINVAL _ changed e in cases (map.contains_key m key) k.0 k.1
  where
    cases : (there : Bool) → key_fits a key ≡ true → (if there then goes (Links (map.remove m key)) Done (Link key (map.get m key)) else Err ENOENT) ≡ Ok changed → IsTurningOf a (Links m) changed
    cases true k e = turning_of a (Links m) (Link key None) _ Done _ changed e k refl
    cases false k e = refused e
links_turning a m (Push value flag) changed w e = refused e
links_turning a m Pop changed w e = refused e
links_turning a m (Store key offset bytes) changed w e = refused e
links_turning a m (Atomic key offset size op operand) changed w e = refused e
links_turning a m (SetLink key id flag) changed w e =
    let f = passes (is_flag flag) EINVAL _ changed e in
    let k = passes (key_fits a key) EINVAL _ changed f.1 in
    cases (map.contains_key m key) refl k.0 k.1
  where
    cases : (there : Bool) → map.contains_key m key ≡ there → key_fits a key ≡ true
        → (if there then (if flag == 1 then Err EEXIST else goes (Links (map.insert m key id)) Done (Link key (map.get m key))) else
        if flag == 2 then Err ENOENT else
        if nat_le a.max_entries (map.len m) then Err E2BIG else
        goes (Links (map.insert m key id)) Done (Link key (map.get m key))) ≡ Ok changed
        → IsTurningOf a (Links m) changed
    cases true there k e =
        let n = refuses_not (flag == 1) EEXIST _ changed e in
        link_turning a m key id changed k (there_has_room a m key there) n.1
    cases false absent k e =
        let x = refuses_not (flag == 2) ENOENT _ changed e in
        let r = refuses_not (nat_le a.max_entries (map.len m)) E2BIG _ changed x.1 in
        link_turning a m key id changed k (absent_has_room a m key r.0) r.1

pub turning : (a : MapAttr) (c : Contents) (op : MapOp) (changed : Changed) → ChangesByTurning a c op changed
turning a (Values vs) op changed w e = values_turning a vs op changed w e
turning a (Entries m) op changed w e = entries_turning a m op changed w e
turning a (Items xs) op changed w e = items_turning a xs op changed w e
turning a (Slots ls) op changed w e = slots_turning a ls op changed w e
turning a (Links m) op changed w e = links_turning a m op changed w e

-- what an accepted operation leaves can be taken back
pub taken_back : (a : MapAttr) (c : Contents) (op : MapOp) (changed : Changed) → ChangesBack a c op changed
taken_back a c op changed w e =
    let t = turning a c op changed w e in
    let s = stays a c t.forth (record { well = w; fits = t.fits }) in
    let b = twice a c t.forth t.fits in
    record {
      turnable = subst (λ (r : Contents × Back). IsTurnable a r.0 r.1) t.turned s;
      restores = ap (λ (r : Contents × Back). r.0) (ap (λ (r : Contents × Back). exchanged r.0 r.1) (sym t.turned) ∙ b);
    }
