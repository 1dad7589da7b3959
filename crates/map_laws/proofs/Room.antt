-- Room for a key: what an exchange leaves of it, and exchanges that fit after another.
use Rattle.std.proofs.Common.{◌≡◌, ◌≢◌, ℕ, ◌+◌, ◌-◌, Bool, true, false, not, ◌&&◌, ◌||◌, ◌==◌, cond, if◌then◌else◌, List, length, Option, Some, None, is_some, Ok, Err, nat_lt, nat_le, refl, ap, sym, ◌∙◌, subst, arith, length-set}
use Rattle.std.proofs.lemmas.Bool.Decides.{nat_tests}
use Rattle.std.specs.FinMap as map
use Rattle.std.specs.Cmp.Lexicographic.{nat_list_cmp_total}
use Rattle.bt_mapkind.specs.declared.attr.MapAttr.{MapAttr}
use Rattle.bt_mapkind.specs.declared.errno.Errno.{Errno}
use Rattle.bt_mapkind.specs.declared.errno.Errno.TheVariants.{ENOENT, E2BIG, EEXIST, EINVAL}
use Rattle.bt_mapkind.specs.declared.exchange.Back.{Back}
use Rattle.bt_mapkind.specs.declared.exchange.Back.TheVariants.{Key, Ends, Link}
use Rattle.bt_mapkind.specs.declared.request.MapOp.{MapOp}
use Rattle.bt_mapkind.specs.declared.request.MapOp.TheVariants.{Update, Delete, Push, Pop, Store, Atomic, SetLink}
use Rattle.bt_mapkind.specs.Contents.{ByKey, Contents, Values, Entries, Items, Slots, Links}
use Rattle.bt_mapkind.specs.Sizes.{pair_fits, key_fits, range_fits}
use Rattle.bt_mapkind.specs.Exchange.{entries_fit, links_fit, is_address, has_room, put_under}
use Rattle.bt_mapkind.specs.Index.{index_of}
use Rattle.bt_mapkind.specs.declared.atomic.AtomicOp.{AtomicOp}
use Rattle.bt_mapkind.specs.declared.atomic.AtomicSize.{AtomicSize}
use Rattle.bt_mapkind.specs.declared.request.MapReply.{MapReply}
use Rattle.bt_mapkind.specs.declared.request.MapReply.TheVariants.{Done}
use Rattle.bt_mapkind.specs.Atomic.{size_in_bytes}
use Rattle.bt_mapkind.specs.Prefix.{address}
use Rattle.bt_mapkind.specs.Step.{Changed, Step, goes, unless, is_flag, is_past, part_fault, full_errno, entry_set, entry_updated, entry_deleted, entry_at, entry_stored, entry_combined, map_step}
use Rattle.bt_mapkind.specs.Well.{Shape, OfEntries, OfLinks, shape_of_type}
use Rattle.map_laws.specs.Place.{place_in, place_at, lacks, adds_key, is_full, puts_key, is_new, is_by_key}
use Rattle.map_laws.specs.Laws.{FitsAfter, LeavesRoom, IsToldNew, TellsNew}
use Rattle.bt_mapkind.proofs.Turning.{refused, passes, refuses_not, same_changed, entry_there}
use Rattle.bt_mapkind.proofs.Stays.{no_fit, both_true, and_true}
use Rattle.map_laws.proofs.Apart.{get-put_under_other, place_of_items}

there_after : {X : Type 0} (m : ByKey X) (k : List ℕ) (x : Option X) (key : List ℕ) → k ≢ key → map.contains_key (put_under m k x) key ≡ map.contains_key m key
there_after m k x key apart = ap is_some (get-put_under_other m k key x apart)

room_after : {X : Type 0} (a : MapAttr) (m : ByKey X) (k : List ℕ) (x : Option X) (key : List ℕ) → k ≢ key → (map.contains_key m key ≡ false → nat_le a.max_entries (map.len (put_under m k x)) ≡ false)
    → has_room a (put_under m k x) key ≡ true
room_after a m k x key apart room =
    ap (λ there. there || nat_lt (map.len (put_under m k x)) a.max_entries) (there_after m k x key apart) ∙ cases (map.contains_key m key) refl
  where
    cases : (there : Bool) → map.contains_key m key ≡ there → there || nat_lt (map.len (put_under m k x)) a.max_entries ≡ true
    cases true is = refl
    cases false absent = let some : nat_le a.max_entries (map.len (put_under m k x)) ≡ false = room absent in grind (arith, nat_tests, some)

entry_fits_after : (a : MapAttr) (m : ByKey (List ℕ)) (k : List ℕ) (x : Option (List ℕ)) (key : List ℕ) (y : Option (List ℕ)) → shape_of_type a.kind ≡ OfEntries → k ≢ key → entries_fit a m (Key key y) ≡ true
    → (puts_key a (Entries m) (Key key y) ≡ true → is_full a (Entries (put_under m k x)) ≡ false) → entries_fit a (put_under m k x) (Key key y) ≡ true
entry_fits_after a m k x key None e apart f room = f
entry_fits_after a m k x key (Some v) e apart f room =
    let h = both_true (pair_fits a key v && is_address a key) _ f in
    and_true _ _ h.0 (room_after a m k x key apart (λ absent. room (ap (λ s. lacks (Entries m) (place_in s key)) e ∙ ap not absent)))

link_fits_after : (a : MapAttr) (m : ByKey ℕ) (k : List ℕ) (x : Option ℕ) (key : List ℕ) (y : Option ℕ) → shape_of_type a.kind ≡ OfLinks → k ≢ key → links_fit a m (Link key y) ≡ true
    → (puts_key a (Links m) (Link key y) ≡ true → is_full a (Links (put_under m k x)) ≡ false) → links_fit a (put_under m k x) (Link key y) ≡ true
link_fits_after a m k x key None e apart f room = f
link_fits_after a m k x key (Some v) e apart f room =
    let h = both_true (key_fits a key) _ f in
    and_true _ _ h.0 (room_after a m k x key apart (λ absent. room (ap (λ s. lacks (Links m) (place_in s key)) e ∙ ap not absent)))

pub fits_after : (a : MapAttr) (c : Contents) (b other : Back) → FitsAfter a c b other
fits_after a (Values vs) (Key k None) other t f apart room = no_fit t.fits
fits_after a (Values vs) (Ends _ _ _ _) other t f apart room = no_fit t.fits
fits_after a (Values vs) (Link _ _) other t f apart room = no_fit t.fits
fits_after a (Values vs) (Key k (Some v)) (Key key None) t f apart room = no_fit f
fits_after a (Values vs) (Key k (Some v)) (Key key (Some y)) t f apart room = ap (λ n. pair_fits a key y && nat_lt (index_of key) n) (length-set vs (index_of k) v) ∙ f
fits_after a (Values vs) (Key k (Some v)) (Ends _ _ _ _) t f apart room = no_fit f
fits_after a (Values vs) (Key k (Some v)) (Link _ _) t f apart room = no_fit f
fits_after a (Entries m) (Ends _ _ _ _) other t f apart room = no_fit t.fits
fits_after a (Entries m) (Link _ _) other t f apart room = no_fit t.fits
fits_after a (Entries m) (Key k x) (Ends _ _ _ _) t f apart room = no_fit f
fits_after a (Entries m) (Key k x) (Link _ _) t f apart room = no_fit f
fits_after a (Entries m) (Key k x) (Key key y) t f apart room = entry_fits_after a m k x key y t.well.shape (λ same. apart (ap (place_in (shape_of_type a.kind)) same)) f room
fits_after a (Items xs) b other t f apart room = absurd (apart (place_of_items a b t.well.shape ∙ sym (place_of_items a other t.well.shape)))
fits_after a (Slots ls) (Key _ _) other t f apart room = no_fit t.fits
fits_after a (Slots ls) (Ends _ _ _ _) other t f apart room = no_fit t.fits
fits_after a (Slots ls) (Link k x) (Key _ _) t f apart room = no_fit f
fits_after a (Slots ls) (Link k x) (Ends _ _ _ _) t f apart room = no_fit f
fits_after a (Slots ls) (Link k x) (Link key y) t f apart room = ap (λ n. key_fits a key && nat_lt (index_of key) n) (length-set ls (index_of k) x) ∙ f
fits_after a (Links m) (Key _ _) other t f apart room = no_fit t.fits
fits_after a (Links m) (Ends _ _ _ _) other t f apart room = no_fit t.fits
fits_after a (Links m) (Link k x) (Key _ _) t f apart room = no_fit f
fits_after a (Links m) (Link k x) (Ends _ _ _ _) t f apart room = no_fit f
fits_after a (Links m) (Link k x) (Link key y) t f apart room = link_fits_after a m k x key y t.well.shape (λ same. apart (ap (place_in (shape_of_type a.kind)) same)) f room

-- ---- what is left of the room
fewer_full : (there : Bool) (n limit : ℕ) → nat_le limit n ≡ false → nat_le limit (cond there (n - 1) n) ≡ false
fewer_full true n limit e = grind (arith, nat_tests, e)
fewer_full false n limit e = e

same_full : (there : Bool) (n limit : ℕ) → not there ≡ false → nat_le limit n ≡ false → nat_le limit (cond there n (n + 1)) ≡ false
same_full true n limit h e = e
same_full false n limit h e = cc

put_leaves : {X : Type 0} (a : MapAttr) (m : ByKey X) (k : List ℕ) (x : Option X) → (is_some x && not (map.contains_key m k)) ≡ false → nat_le a.max_entries (map.len m) ≡ false → nat_le a.max_entries (map.len (put_under m k x)) ≡ false
put_leaves a m k None h e = ap (nat_le a.max_entries) (map.len-remove nat_list_cmp_total m k) ∙ fewer_full (map.contains_key m k) (map.len m) a.max_entries e
put_leaves a m k (Some v) h e = ap (nat_le a.max_entries) (map.len-insert nat_list_cmp_total m k v) ∙ same_full (map.contains_key m k) (map.len m) a.max_entries h e

pub leaves_room : (a : MapAttr) (c : Contents) (b : Back) → LeavesRoom a c b
leaves_room a (Values vs) (Key k None) w h e = refl
leaves_room a (Values vs) (Key k (Some v)) w h e = refl
leaves_room a (Values vs) (Ends _ _ _ _) w h e = refl
leaves_room a (Values vs) (Link _ _) w h e = refl
leaves_room a (Entries m) (Key k x) w h e = put_leaves a m k x (sym (ap (λ s. is_some x && lacks (Entries m) (place_in s k)) w.shape) ∙ h) e
leaves_room a (Entries m) (Ends _ _ _ _) w h e = e
leaves_room a (Entries m) (Link _ _) w h e = e
leaves_room a (Items xs) (Key _ _) w h e = refl
leaves_room a (Items xs) (Ends _ _ _ _) w h e = refl
leaves_room a (Items xs) (Link _ _) w h e = refl
leaves_room a (Slots ls) (Key _ _) w h e = refl
leaves_room a (Slots ls) (Ends _ _ _ _) w h e = refl
leaves_room a (Slots ls) (Link _ _) w h e = refl
leaves_room a (Links m) (Key _ _) w h e = e
leaves_room a (Links m) (Ends _ _ _ _) w h e = e
leaves_room a (Links m) (Link k x) w h e = put_leaves a m k x (sym (ap (λ s. is_some x && lacks (Links m) (place_in s k)) w.shape) ∙ h) e

-- ---- a new key
pub there_is_no : (fault : Option Errno) (step : Step) (changed : Changed) → unless fault step ≡ Ok changed → (fault ≡ None) × (step ≡ Ok changed)
there_is_no None step changed e = (refl, e)
there_is_no (Some errno) step changed e = refused e

not_new : (contents : Contents) (reply : MapReply) (back : Back) (changed : Changed) → goes contents reply back ≡ Ok changed → is_new back ≡ false → is_new changed.back ≡ false
not_new contents reply back changed e n = subst (λ (x : Changed). is_new x.back ≡ false) (same_changed _ _ (goes contents reply back) refl e) n

-- an array's keys are all there
values_old : (a : MapAttr) (vs : List (List ℕ)) (op : MapOp) (changed : Changed) → map_step a (Values vs) op ≡ Ok changed → is_new changed.back ≡ false
values_old a vs (Update key value flag) changed e =
    let f = passes (is_flag flag) EINVAL _ changed e in
    let p = passes (pair_fits a key value) EINVAL _ changed f.1 in
    let i = refuses_not (is_past vs key) E2BIG _ changed p.1 in
    let n = refuses_not (flag == 1) EEXIST _ changed i.1 in
    not_new _ _ _ changed n.1 refl
values_old a vs (Delete key) changed e = refused e
values_old a vs (Push value flag) changed e = refused e
values_old a vs Pop changed e = refused e
values_old a vs (Store key offset bytes) changed e = not_new _ _ _ changed (there_is_no (part_fault a vs key offset (length bytes)) _ changed e).1 refl
values_old a vs (Atomic key offset size op operand) changed e = not_new _ _ _ changed (there_is_no (part_fault a vs key offset (size_in_bytes size)) _ changed e).1 refl
values_old a vs (SetLink key id flag) changed e = refused e

adds_none : (a : MapAttr) (vs : List (List ℕ)) (op : MapOp) → adds_key a (Values vs) op ≡ false
adds_none a vs (Update key value flag) = refl
adds_none a vs (Delete key) = refl
adds_none a vs (Push value flag) = refl
adds_none a vs Pop = refl
adds_none a vs (Store key offset bytes) = refl
adds_none a vs (Atomic key offset size op operand) = refl
adds_none a vs (SetLink key id flag) = refl

-- what an exchange of a key tells
new_is : (key : List ℕ) (o : Option (List ℕ)) → is_new (Key key o) ≡ not (is_some o)
new_is key None = refl
new_is key (Some v) = refl

not_true : (b : Bool) → b ≡ true → not b ≡ false
not_true b e = ap not e

told_by : (a : MapAttr) (m : ByKey (List ℕ)) (op : MapOp) (key : List ℕ) (contents : Contents) (reply : MapReply) (changed : Changed) → goes contents reply (Key key (map.get m key)) ≡ Ok changed → adds_key a (Entries m) op ≡ not (map.contains_key m key)
    → (map.contains_key m key ≡ false → is_full a (Entries m) ≡ false) → IsToldNew a (Entries m) op changed
told_by a m op key contents reply changed e adds room =
    subst (IsToldNew a (Entries m) op) (same_changed _ _ (goes contents reply (Key key (map.get m key))) refl e)
    (record { new = adds ∙ sym (new_is key (map.get m key)); room = λ new. room (absent (map.contains_key m key) (sym adds ∙ new)) })
  where
    absent : (b : Bool) → not b ≡ true → b ≡ false
    absent true h = cc
    absent false h = refl

-- an address and its place
adds_at : (a : MapAttr) (m : ByKey (List ℕ)) (key stored value : List ℕ) (flag : ℕ) → shape_of_type a.kind ≡ OfEntries → address a key ≡ Some stored → adds_key a (Entries m) (Update key value flag) ≡ not (map.contains_key m stored)
adds_at a m key stored value flag shape is = ap (λ o. lacks (Entries m) (place_at a o)) is ∙ ap (λ s. lacks (Entries m) (place_in s stored)) shape

update_told : (a : MapAttr) (m : ByKey (List ℕ)) (key value : List ℕ) (flag : ℕ) (stored : Option (List ℕ)) (changed : Changed) → shape_of_type a.kind ≡ OfEntries → address a key ≡ stored → entry_updated a m stored value flag ≡ Ok changed → IsToldNew a (Entries m) (Update key value flag) changed
update_told a m key value flag None changed shape is e = refused e
update_told a m key value flag (Some stored) changed shape is e = cases (map.contains_key m stored) refl e
  where
    cases : (there : Bool) → map.contains_key m stored ≡ there
        → (if there then (if flag == 1 then Err EEXIST else entry_set m stored value Done) else
        if flag == 2 then Err ENOENT else
        if nat_le a.max_entries (map.len m) then Err (full_errno a) else
        entry_set m stored value Done) ≡ Ok changed
        → IsToldNew a (Entries m) (Update key value flag) changed
    cases true there e =
        told_by a m (Update key value flag) stored _ _ changed (refuses_not (flag == 1) EEXIST _ changed e).1 (adds_at a m key stored value flag shape is) (λ absent. cc)
    cases false absent e =
        let x = refuses_not (flag == 2) ENOENT _ changed e in
        let r = refuses_not (nat_le a.max_entries (map.len m)) (full_errno a) _ changed x.1 in
        told_by a m (Update key value flag) stored _ _ changed r.1 (adds_at a m key stored value flag shape is) (λ absent. r.0)

delete_told : (a : MapAttr) (m : ByKey (List ℕ)) (key : List ℕ) (stored : Option (List ℕ)) (changed : Changed) → entry_deleted m stored ≡ Ok changed → IsToldNew a (Entries m) (Delete key) changed
delete_told a m key None changed e = refused e
delete_told a m key (Some stored) changed e = cases (map.contains_key m stored) refl e
  where
    cases : (there : Bool) → map.contains_key m stored ≡ there → (if there then goes (Entries (map.remove m stored)) Done (Key stored (map.get m stored)) else Err ENOENT) ≡ Ok changed → IsToldNew a (Entries m) (Delete key) changed
    cases true there e = told_by a m (Delete key) stored _ _ changed e (sym (not_true _ there)) (λ absent. cc)
    cases false absent e = refused e

there_is : (m : ByKey (List ℕ)) (key value : List ℕ) → map.get m key ≡ Some value → map.contains_key m key ≡ true
there_is m key value is = ap is_some is

store_told : (a : MapAttr) (m : ByKey (List ℕ)) (key : List ℕ) (offset : ℕ) (bytes : List ℕ) (e : Option (List ℕ × List ℕ)) (changed : Changed) → entry_at m (address a key) ≡ e → entry_stored a m e offset bytes ≡ Ok changed → IsToldNew a (Entries m) (Store key offset bytes) changed
store_told a m key offset bytes None changed is e = refused e
store_told a m key offset bytes (Some old) changed is e =
    let r = passes (range_fits a offset (length bytes)) EINVAL _ changed e in
    let t = entry_there m (address a key) old is in
    let there = there_is m old.0 old.1 t.is in
    told_by a m (Store key offset bytes) old.0 _ _ changed r.1 (sym (not_true _ there)) (λ absent. cc)

combine_told : (a : MapAttr) (m : ByKey (List ℕ)) (key : List ℕ) (offset : ℕ) (size : AtomicSize) (op : AtomicOp) (operand : ℕ) (e : Option (List ℕ × List ℕ)) (changed : Changed) → entry_at m (address a key) ≡ e → entry_combined a m e offset size op operand ≡ Ok changed → IsToldNew a (Entries m) (Atomic key offset size op operand) changed
combine_told a m key offset size op operand None changed is e = refused e
combine_told a m key offset size op operand (Some old) changed is e =
    let r = passes (range_fits a offset (size_in_bytes size)) EINVAL _ changed e in
    let t = entry_there m (address a key) old is in
    let there = there_is m old.0 old.1 t.is in
    told_by a m (Atomic key offset size op operand) old.0 _ _ changed r.1 (sym (not_true _ there)) (λ absent. cc)

entries_told : (a : MapAttr) (m : ByKey (List ℕ)) (op : MapOp) (changed : Changed) → shape_of_type a.kind ≡ OfEntries → map_step a (Entries m) op ≡ Ok changed → IsToldNew a (Entries m) op changed
entries_told a m (Update key value flag) changed shape e =
    let f = passes (is_flag flag) EINVAL _ changed e in
    let p = passes (pair_fits a key value) EINVAL _ changed f.1 in
    update_told a m key value flag (address a key) changed shape refl p.1
entries_told a m (Delete key) changed shape e = delete_told a m key (address a key) changed (passes (key_fits a key) EINVAL _ changed e).1
entries_told a m (Push value flag) changed shape e = refused e
entries_told a m Pop changed shape e = refused e
entries_told a m (Store key offset bytes) changed shape e = store_told a m key offset bytes (entry_at m (address a key)) changed refl (passes (key_fits a key) EINVAL _ changed e).1
entries_told a m (Atomic key offset size op operand) changed shape e = combine_told a m key offset size op operand (entry_at m (address a key)) changed refl (passes (key_fits a key) EINVAL _ changed e).1
entries_told a m (SetLink key id flag) changed shape e = refused e

pub by_key : (s t : Shape) → s ≡ t → is_by_key s ≡ true → is_by_key t ≡ true
by_key s t e h = subst (λ (x : Shape). is_by_key x ≡ true) e h

pub tells_new : (a : MapAttr) (c : Contents) (op : MapOp) (changed : Changed) → TellsNew a c op changed
tells_new a (Values vs) op changed w k e = record { new = adds_none a vs op ∙ sym (values_old a vs op changed e); room = λ adds. refl }
tells_new a (Entries m) op changed w k e = entries_told a m op changed w.shape e
tells_new a (Items xs) op changed w k e = let no = by_key _ _ w.shape k in cc
tells_new a (Slots ls) op changed w k e = let no = by_key _ _ w.shape k in cc
tells_new a (Links m) op changed w k e = let no = by_key _ _ w.shape k in cc
