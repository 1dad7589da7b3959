-- The changes of a map of entries follow the table, and keep what it holds.
use Rattle.std.proofs.Common.{◌≡◌, ℕ, ◌≤◌, Bool, true, false, not, if◌then◌else◌, ◌==◌, ◌&&◌, ◌||◌, List, length, Option, Some, None, is_some, MatchOption, IsTrue, Ok, Err, nat_lt, nat_le, refl, sym, ap, ap₂, subst, ◌∙◌, arith}
use Rattle.std.specs.FinMap as map
use Rattle.std.proofs.lemmas.Bool.Decides.{nat_tests}
use Rattle.bt_mapkind.specs.declared.attr.MapAttr.{MapAttr}
use Rattle.bt_mapkind.specs.declared.attr.MapType.{MapType}
use Rattle.bt_mapkind.specs.declared.atomic.AtomicOp.{AtomicOp}
use Rattle.bt_mapkind.specs.declared.atomic.AtomicSize.{AtomicSize}
use Rattle.bt_mapkind.specs.declared.errno.Errno.{Errno}
use Rattle.bt_mapkind.specs.declared.errno.Errno.TheVariants.{ENOENT, EEXIST, EINVAL}
use Rattle.bt_mapkind.specs.declared.exchange.Back.{Back}
use Rattle.bt_mapkind.specs.declared.exchange.Back.TheVariants.{Key}
use Rattle.bt_mapkind.specs.declared.request.MapOp.TheVariants.{Update, Delete, Store, Atomic}
use Rattle.bt_mapkind.specs.declared.request.MapReply.{MapReply}
use Rattle.bt_mapkind.specs.declared.request.MapReply.TheVariants.{Done}
use Rattle.bt_mapkind.specs.declared.request.Query.TheVariants.{Next}
use Rattle.bt_mapkind.specs.Attributes.{IsGoodFor, charge_of}
use Rattle.bt_mapkind.specs.Atomic.{size_in_bytes}
use Rattle.bt_mapkind.specs.Contents.{Contents, ByKey, Entries}
use Rattle.bt_mapkind.specs.Prefix.{address}
use Rattle.bt_mapkind.specs.Sizes.{key_fits, range_fits}
use Rattle.bt_mapkind.specs.Step.{Step, map_step, goes, unless, is_flag, full_errno, entry_set, with_key, entry_at, entry_stored, entry_combined}
use Rattle.bt_mapkind.specs.Exchange.{put_under, entries_fit, exchanged, has_room, is_address}
use Rattle.bt_mapkind.specs.Read.{map_read, key_found}
use Rattle.bt_mapkind.specs.Well.{IsWell, shape_of_type, OfEntries}
use Rattle.bt_mapkind.specs.Laws.{IsTurnable}
use Rattle.bt_mapkind.specs.Answers.{IsTurned}
use Rattle.bt_mapkind.proofs.Stays.{stays, key_fits_of, value_fits_of, and_true}
use Rattle.bt_mapkind.proofs.Prefixes.{address_stands}
use Rattle.bt_mapkind.proofs.Fresh.{fresh_is_well}
use Rattle.map_table.specs.Table.{Kept, key_after, put_fault}
use Rattle.map_table.proofs.MapLemmas.{remove_gap}
use Rattle.map_table.proofs.TableLemmas.{with_entries}
use Rattle.bt_hash.specs.Held.{IsHeld, range_fault, part_fault}
use Rattle.bt_hash.proofs.EmptyLemmas.{fresh_entries}

-- ---- what the table says of entries
by_put_fault : (there one two full : Bool) (errno : Errno) (s : Step)
    → (if there then (if one then Err EEXIST else s) else if two then Err ENOENT else if full then Err errno else s)
    ≡ unless (if there then (if one then Some EEXIST else None) else if two then Some ENOENT else if full then Some errno else None) s
by_put_fault true true two full errno s = refl
by_put_fault true false two full errno s = refl
by_put_fault false one true full errno s = refl
by_put_fault false one false true errno s = refl
by_put_fault false one false false errno s = refl

-- an update with a flag and sizes that are right
update_step : (a : MapAttr) (m : ByKey (List ℕ)) (key stored value : List ℕ) (flag : ℕ) (full : Errno) → full ≡ full_errno a → flag ≤ 2 → length key ≡ a.key_size → length value ≡ a.value_size → address a key ≡ Some stored
    → map_step a (Entries m) (Update key value flag) ≡ unless (put_fault a.max_entries m stored flag full) (goes (Entries (map.insert m stored value)) Done (Key stored (map.get m stored)))
update_step a m key stored value flag full is small k v at =
    let flagged : is_flag flag ≡ true = grind (arith, nat_tests) in
    rw (flagged, key_fits_of a key k, value_fits_of a value v, at, is) (by_put_fault (map.contains_key m stored) (flag == 1) (flag == 2) (nat_le a.max_entries (map.len m)) (full_errno a) (entry_set m stored value Done))

-- a write to a part of a value that is refused
refused_in : (fits : Bool) (s : Step) (errno : Errno) → (if not fits then Some EINVAL else None) ≡ Some errno → (if not fits then Err EINVAL else s) ≡ Err errno
refused_in true s errno e = cc
refused_in false s errno e = cc

store_at : (a : MapAttr) (m : ByKey (List ℕ)) (stored : List ℕ) (offset : ℕ) (bytes : List ℕ) (value : Option (List ℕ)) (errno : Errno)
    → (if not (is_some value) then Some ENOENT else if not (range_fits a offset (length bytes)) then Some EINVAL else None) ≡ Some errno → entry_stored a m (with_key stored value) offset bytes ≡ Err errno
store_at a m stored offset bytes None errno e = cc
store_at a m stored offset bytes (Some value) errno e = refused_in (range_fits a offset (length bytes)) _ errno e

store_of : (a : MapAttr) (m : ByKey (List ℕ)) (at : Option (List ℕ)) (offset : ℕ) (bytes : List ℕ) (errno : Errno) → range_fault a m at offset (length bytes) ≡ Some errno → entry_stored a m (entry_at m at) offset bytes ≡ Err errno
store_of a m None offset bytes errno e = cc
store_of a m (Some stored) offset bytes errno e = store_at a m stored offset bytes (map.get m stored) errno e

combine_at : (a : MapAttr) (m : ByKey (List ℕ)) (stored : List ℕ) (offset : ℕ) (size : AtomicSize) (op : AtomicOp) (operand : ℕ) (value : Option (List ℕ)) (errno : Errno)
    → (if not (is_some value) then Some ENOENT else if not (range_fits a offset (size_in_bytes size)) then Some EINVAL else None) ≡ Some errno → entry_combined a m (with_key stored value) offset size op operand ≡ Err errno
combine_at a m stored offset size op operand None errno e = cc
combine_at a m stored offset size op operand (Some value) errno e = refused_in (range_fits a offset (size_in_bytes size)) _ errno e

combine_of : (a : MapAttr) (m : ByKey (List ℕ)) (at : Option (List ℕ)) (offset : ℕ) (size : AtomicSize) (op : AtomicOp) (operand : ℕ) (errno : Errno) → range_fault a m at offset (size_in_bytes size) ≡ Some errno → entry_combined a m (entry_at m at) offset size op operand ≡ Err errno
combine_of a m None offset size op operand errno e = cc
combine_of a m (Some stored) offset size op operand errno e = combine_at a m stored offset size op operand (map.get m stored) errno e

by_size : (fits : Bool) (fault : Option Errno) (s : Step) (errno : Errno) → (fault ≡ Some errno → s ≡ Err errno) → (if not fits then Some EINVAL else fault) ≡ Some errno → (if not fits then Err EINVAL else s) ≡ Err errno
by_size true fault s errno leads e = leads e
by_size false fault s errno leads e = cc

pub store_refused : (a : MapAttr) (m : ByKey (List ℕ)) (key : List ℕ) (offset count : ℕ) (bytes : List ℕ) (errno : Errno) → count ≡ length bytes → part_fault a m key offset count ≡ Some errno → map_step a (Entries m) (Store key offset bytes) ≡ Err errno
store_refused a m key offset count bytes errno long e =
    by_size (key_fits a key) (range_fault a m (address a key) offset (length bytes)) (entry_stored a m (entry_at m (address a key)) offset bytes) errno (store_of a m (address a key) offset bytes errno) (ap (part_fault a m key offset) (sym long) ∙ e)

pub combine_refused : (a : MapAttr) (m : ByKey (List ℕ)) (key : List ℕ) (offset count : ℕ) (size : AtomicSize) (op : AtomicOp) (operand : ℕ) (errno : Errno) → count ≡ size_in_bytes size → part_fault a m key offset count ≡ Some errno → map_step a (Entries m) (Atomic key offset size op operand) ≡ Err errno
combine_refused a m key offset count size op operand errno long e =
    by_size (key_fits a key) (range_fault a m (address a key) offset (size_in_bytes size)) (entry_combined a m (entry_at m (address a key)) offset size op operand) errno (combine_of a m (address a key) offset size op operand errno) (ap (part_fault a m key offset) (sym long) ∙ e)

-- ---- the exchange
pub held_exchanged : {kind : MapType} (a : MapAttr) (old new : Kept) (stored : List ℕ) (value : Option (List ℕ)) → IsHeld kind a old → IsTrue (entries_fit a old.entries (Key stored value)) → new ≡ with_entries old (put_under old.entries stored value) → IsHeld kind a new
held_exchanged a old new stored value h fits after =
    record {
      good = h.good;
      capacity = ap (λ (k : Kept). k.capacity) after ∙ h.capacity;
      key_size = ap (λ (k : Kept). k.key_size) after ∙ h.key_size;
      value_size = ap (λ (k : Kept). k.value_size) after ∙ h.value_size;
      well = subst (λ (m : ByKey (List ℕ)). IsWell a (Entries m)) (sym (ap (λ (k : Kept). k.entries) after)) (stays a (Entries old.entries) (Key stored value) (record { well = h.well; fits = fits })).well;
    }

-- ---- an update
pub update_refused : (a : MapAttr) (m : ByKey (List ℕ)) (key stored value : List ℕ) (flag : ℕ) (full errno : Errno) → full ≡ full_errno a → flag ≤ 2 → length key ≡ a.key_size → length value ≡ a.value_size → address a key ≡ Some stored → put_fault a.max_entries m stored flag full ≡ Some errno
    → map_step a (Entries m) (Update key value flag) ≡ Err errno
update_refused a m key stored value flag full errno is small k v at fault =
    update_step a m key stored value flag full is small k v at ∙ ap (λ f. unless f (goes (Entries (map.insert m stored value)) Done (Key stored (map.get m stored)))) fault

room_of_no_fault : (a : MapAttr) (m : ByKey (List ℕ)) (stored : List ℕ) (flag : ℕ) (errno : Errno) → put_fault a.max_entries m stored flag errno ≡ None → has_room a m stored ≡ true
room_of_no_fault a m stored flag errno none = cases (map.contains_key m stored) (flag == 1) (flag == 2) (nat_le a.max_entries (map.len m)) refl none
  where
    cases : (there one two full : Bool) → nat_le a.max_entries (map.len m) ≡ full → (if there then (if one then Some EEXIST else None) else if two then Some ENOENT else if full then Some errno else None) ≡ None
        → there || nat_lt (map.len m) a.max_entries ≡ true
    cases true one two full is e = refl
    cases false one true full is e = cc
    cases false one false true is e = cc
    cases false one false false is e = grind (arith, nat_tests)

-- the address of a key is one under which an entry can stand, and has the key's size
pub key_fits_at : (a : MapAttr) (key stored : List ℕ) → length key ≡ a.key_size → address a key ≡ Some stored → key_fits a stored && is_address a stored ≡ true
key_fits_at a key stored k at =
    let s = address_stands a key stored at in
    and_true _ _ (key_fits_of a stored (s.key_size ∙ k)) s.stands

pub update_fits : (a : MapAttr) (m : ByKey (List ℕ)) (key stored value copy : List ℕ) (flag : ℕ) (full : Errno) → length key ≡ a.key_size → length value ≡ a.value_size → copy ≡ value → address a key ≡ Some stored → put_fault a.max_entries m stored flag full ≡ None
    → entries_fit a m (Key stored (Some copy)) ≡ true
update_fits a m key stored value copy flag full k v same at none =
    let s = address_stands a key stored at in
    and_true _ _ (and_true _ _ (and_true _ _ (key_fits_of a stored (s.key_size ∙ k)) (value_fits_of a copy (ap length same ∙ v))) s.stands) (room_of_no_fault a m stored flag full none)

-- ---- a delete
pub delete_done : (a : MapAttr) (m n : ByKey (List ℕ)) (key stored before : List ℕ) (back : Back) → length key ≡ a.key_size → address a key ≡ Some stored → Some before ≡ map.get m stored → n ≡ put_under m stored None → back ≡ Key stored (Some before)
    → map_step a (Entries m) (Delete key) ≡ goes (Entries n) Done back
delete_done a m n key stored before back k at there after is = rw (key_fits_of a key k, at, ← there, after, is) refl

pub delete_refused : (a : MapAttr) (m n : ByKey (List ℕ)) (key stored : List ℕ) → length key ≡ a.key_size → address a key ≡ Some stored → None ≡ map.get m stored → n ≡ put_under m stored None
    → (map_step a (Entries m) (Delete key) ≡ Err ENOENT) × (Entries n ≡ Entries m)
delete_refused a m n key stored k at absent after = (rw (key_fits_of a key k, at, ← absent) refl, ap Entries (after ∙ remove_gap m stored (sym absent)))

-- ---- a write to a part of a value
pub held_written : {kind : MapType} (a : MapAttr) (old new : Kept) (key stored : List ℕ) (f : List ℕ → List ℕ) (before : Option (List ℕ)) → IsHeld kind a old → address a key ≡ Some stored → before ≡ map.get old.entries stored → ((v : List ℕ) → length v ≡ a.value_size → length (f v) ≡ a.value_size)
    → MatchOption before (new ≡ old) (λ v. new ≡ with_entries old (map.insert old.entries stored (f v))) → IsHeld kind a new
held_written {kind} a old new key stored f None h at there long after = subst (IsHeld kind a) (sym after) h
held_written a old new key stored f (Some v) h at there long after =
    let e = h.well.sizes.1 stored v (sym there) in
    let sizes = and_true _ _ (and_true _ _ (key_fits_of a stored e.key_size) (value_fits_of a (f v) (long v e.value_size))) (address_stands a key stored at).stands in
    let room : has_room a old.entries stored ≡ true = ap (λ (o : Option (List ℕ)). is_some o || nat_lt (map.len old.entries) a.max_entries) (sym there) in
    held_exchanged a old new stored (Some (f v)) h (and_true _ _ sizes room) after

-- ---- a turning
pub turned : (a : MapAttr) (m n : ByKey (List ℕ)) (back : Back) (key : List ℕ) (value put before left : Option (List ℕ)) → IsWell a (Entries m) → IsTrue (entries_fit a m back) → back ≡ Key key value → put ≡ value
    → n ≡ put_under m key put → before ≡ map.get m key → left ≡ before
    → IsTurned (record { attr = a; contents = Entries m; charge = charge_of a; roomy = true }) back (record { attr = a; contents = Entries n; charge = charge_of a; roomy = true }) (Key key left)
turned a m n back key value put before left w fits is same after found kept =
    let exchange : exchanged (Entries m) back ≡ (Entries n, Key key left) =
    ap (exchanged (Entries m)) is ∙ ap₂ (λ (x : ByKey (List ℕ)) o. (Entries x, Key key o)) (ap (put_under m key) (sym same) ∙ sym after) (sym (kept ∙ found)) in
    let t : IsTurnable a (Entries n) (Key key left) = subst (λ (r : Contents × Back). IsTurnable a r.0 r.1) exchange (stays a (Entries m) back (record { well = w; fits = fits })) in
    record { exchange = exchange; make = record { attr = refl; charge = refl; roomy = refl }; fits = t.fits }

-- ---- the key after another
pub next_at : (a : MapAttr) (m : ByKey (List ℕ)) (key stored : List ℕ) (asked : Option (List ℕ)) (reply : MapReply) → asked ≡ Some key → length key ≡ a.key_size → address a key ≡ Some stored → map.contains_key m stored ≡ true → reply ≡ key_found (key_after m stored)
    → map_read a (Entries m) (Next asked) ≡ Ok reply
next_at a m key stored asked reply is k at there told = rw (is, key_fits_of a key k, at, there, told) refl

-- ---- a new map
pub held_new : {kind : MapType} (a : MapAttr) (t : Kept) → shape_of_type kind ≡ OfEntries → IsGoodFor kind a → t ≡ record { entries = map.empty; capacity = a.max_entries; key_size = a.key_size; value_size = a.value_size } → IsHeld kind a t
held_new a t shape good is =
    record {
      good = good;
      capacity = ap (λ (k : Kept). k.capacity) is;
      key_size = ap (λ (k : Kept). k.key_size) is;
      value_size = ap (λ (k : Kept). k.value_size) is;
      well = subst (IsWell a) (fresh_entries a (ap shape_of_type good.type ∙ shape) ∙ ap Entries (sym (ap (λ (k : Kept). k.entries) is))) (fresh_is_well a);
    }
