-- A hash of maps: its answers, and that a change or a turning follows the table.
use Rattle.std.proofs.Common.{◌≡◌, ◌≢◌, ℕ, ◌<◌, ◌≤◌, Bool, true, false, if◌then◌else◌, ◌==◌, List, length, Option, Some, None, option_map, is_some, IfSome, IsTrue, Ok, Err, nat_lt, nat_le, nat_eq, refl, sym, ap, ap₂, subst, ◌∙◌, arith, ◌||◌}
use Rattle.std.specs.List.{slice_get}
use Rattle.std.specs.FinMap as map
use Rattle.std.proofs.lemmas.Bool.Decides.{nat_tests}
use Rattle.bt_mapkind.specs.declared.attr.MapAttr.{MapAttr}
use Rattle.bt_mapkind.specs.declared.attr.MapType.TheVariants.{HashOfMaps}
use Rattle.bt_mapkind.specs.declared.errno.Errno.{Errno}
use Rattle.bt_mapkind.specs.declared.errno.Errno.TheVariants.{ENOENT, E2BIG, EEXIST}
use Rattle.bt_mapkind.specs.declared.exchange.Back.{Back}
use Rattle.bt_mapkind.specs.declared.exchange.Back.TheVariants.{Link}
use Rattle.bt_mapkind.specs.declared.request.MapOp.TheVariants.{Delete, SetLink}
use Rattle.bt_mapkind.specs.declared.request.Query.TheVariants.{Lookup, Next, Count}
use Rattle.bt_mapkind.specs.declared.request.MapReply.{MapReply}
use Rattle.bt_mapkind.specs.declared.request.MapReply.TheVariants.{Done, Nothing, Link as Linked, Count as Counted}
use Rattle.bt_mapkind.specs.declared.request.MapFault.TheVariants.{NoMemory}
use Rattle.bt_mapkind.specs.Attributes.{IsGoodFor, charge_of}
use Rattle.bt_mapkind.specs.Contents.{Contents, ByKey, Links, fresh, fresh_of_type}
use Rattle.bt_mapkind.specs.Index.{index_of}
use Rattle.bt_mapkind.specs.Sizes.{key_fits}
use Rattle.bt_mapkind.specs.Step.{Step, map_step, goes, unless, is_flag}
use Rattle.bt_mapkind.specs.Read.{map_read, key_found, link_found}
use Rattle.bt_mapkind.specs.Exchange.{exchanged, links_fit, has_room, put_under}
use Rattle.bt_mapkind.specs.Well.{IsWell, EachEntry}
use Rattle.bt_mapkind.specs.Seen.{Seen}
use Rattle.bt_mapkind.specs.Laws.{IsTurnable}
use Rattle.bt_mapkind.specs.Answers.{IsAnswer, IsTurned}
use Rattle.bt_mapkind.proofs.Keyed.{each-put_under}
use Rattle.bt_mapkind.proofs.Stays.{stays, key_fits_of, key_size_of, both_true, and_true, below_of}
use Rattle.bt_mapkind.proofs.Fresh.{fresh_is_well}
use Rattle.map_table.specs.Order.{key_cmp}
use Rattle.map_table.specs.Table.{Kept, key_after, put_fault}
use Rattle.map_table.proofs.TableLemmas.{with_entries}
use Rattle.bt_nested.specs.Ids.{ids_of}
use Rattle.bt_nested.specs.Held.{IsHashOfIds}
use Rattle.bt_nested.proofs.IdsLemmas.{get-ids_of, keys-ids_of, len-ids_of, contains_key-ids_of, ids_of-put_under, ids_of-empty, put_under-absent}

abbrev SeenAs : MapAttr → Contents → Seen
SeenAs a c = record { attr = a; contents = c; charge = charge_of a; roomy = true }

-- ---- questions
pub found_here : (a : MapAttr) (m : ByKey (List ℕ)) (key value : List ℕ) (id : ℕ) → length key ≡ a.key_size → Some value ≡ map.get m key → id ≡ index_of value → map_read a (Links (ids_of m)) (Lookup key) ≡ Ok (Linked id)
found_here a m key value id size there same =
    rw (key_fits_of a key size) (ap (λ o. Ok (link_found o)) (get-ids_of m key ∙ ap (option_map index_of) (sym there) ∙ ap Some (sym same)))

pub not_found : (a : MapAttr) (m : ByKey (List ℕ)) (key : List ℕ) → length key ≡ a.key_size → None ≡ map.get m key → map_read a (Links (ids_of m)) (Lookup key) ≡ Ok Nothing
not_found a m key size absent = rw (key_fits_of a key size) (ap (λ o. Ok (link_found o)) (get-ids_of m key ∙ ap (option_map index_of) (sym absent)))

-- a walk
pub next_here : (a : MapAttr) (m : ByKey (List ℕ)) (asked after : Option (List ℕ)) (key : List ℕ) (reply : MapReply) → asked ≡ Some key → length key ≡ a.key_size → map.contains_key m key ≡ true → after ≡ key_after m key → reply ≡ key_found after
    → map_read a (Links (ids_of m)) (Next asked) ≡ Ok reply
next_here a m asked after key reply is size there next told = rw (is, key_fits_of a key size, contains_key-ids_of m key, there, keys-ids_of m, told, next) refl

pub next_of_absent : (a : MapAttr) (m : ByKey (List ℕ)) (asked : Option (List ℕ)) (key : List ℕ) (reply : MapReply) → asked ≡ Some key → length key ≡ a.key_size → map.contains_key m key ≡ false → reply ≡ key_found (slice_get (map.keys (ids_of m)) 0)
    → map_read a (Links (ids_of m)) (Next asked) ≡ Ok reply
next_of_absent a m asked key reply is size absent told = rw (is, key_fits_of a key size, contains_key-ids_of m key, absent, told) refl

pub key_seen : (m : ByKey (List ℕ)) (key : Option (List ℕ)) (n : ℕ) → key ≡ slice_get (map.keys m) n → key_found key ≡ key_found (slice_get (map.keys (ids_of m)) n)
key_seen m key n is = ap key_found (is ∙ ap (λ l. slice_get l n) (sym (keys-ids_of m)))

no_want : (reply : MapReply) → Ok reply ≢ Err NoMemory
no_want reply e = cc

pub counted : (a : MapAttr) (m : ByKey (List ℕ)) (count : ℕ) → count ≡ map.len m → IsAnswer (SeenAs a (Links (ids_of m))) Count (Ok (Counted count))
counted a m count is = record { told = ap (λ n. Ok (Counted n)) (len-ids_of m ∙ sym is); room = λ _. no_want (Counted count) }

-- ---- room
pub same_room : (a : MapAttr) (m : ByKey (List ℕ)) (key : List ℕ) → has_room a (ids_of m) key ≡ has_room a m key
same_room a m key = ap₂ (λ (there : Bool) n. there || nat_lt n a.max_entries) (contains_key-ids_of m key) (len-ids_of m)

either : (b other : Bool) → other ≡ true → other ≡ b || other
either true other fact = fact
either false other fact = refl

pub room_below : (a : MapAttr) (m : ByKey (List ℕ)) (key : List ℕ) (count : ℕ) → count ≡ map.len m → count < a.max_entries → nat_lt count a.max_entries ≡ has_room a (ids_of m) key
room_below a m key count is below =
    let free : nat_lt (map.len m) a.max_entries ≡ true = grind (arith, nat_tests) in
    ap (λ n. nat_lt n a.max_entries) is ∙ either (map.contains_key m key) (nat_lt (map.len m) a.max_entries) free ∙ sym (same_room a m key)

pub room_full : (a : MapAttr) (m : ByKey (List ℕ)) (key : List ℕ) (there : Bool) → a.max_entries ≤ map.len m → there ≡ map.contains_key m key → there ≡ has_room a (ids_of m) key
room_full a m key there full is = is ∙ or_not (map.contains_key m key) (nat_lt (map.len m) a.max_entries) (grind (arith, nat_tests)) ∙ sym (same_room a m key)
  where
    or_not : (b other : Bool) → other ≡ false → b ≡ b || other
    or_not true other no_other = refl
    or_not false other no_other = sym no_other

-- ---- the exchange
-- what an exchange that fits asks of the table
pub record IsReady (t : Kept) (key : List ℕ) (value : Option (List ℕ)) : Type 0 where
  pub key_size : length key ≡ t.key_size
  pub value_size : IfSome value (λ v. length v ≡ t.value_size)
  pub room : IfSome value (λ _. map.get t.entries key ≡ None → map.len t.entries < t.capacity)

absent_room : (a : MapAttr) (m : ByKey (List ℕ)) (key : List ℕ) → has_room a m key ≡ true → map.get m key ≡ None → map.len m < a.max_entries
absent_room a m key room absent =
    let no : map.contains_key m key ≡ false = ap is_some absent in
    let free : nat_lt (map.len m) a.max_entries ≡ true = sym (ap (λ b. b || nat_lt (map.len m) a.max_entries) no) ∙ room in
    below_of _ _ free

link_key : (a : MapAttr) (m : ByKey ℕ) (key : List ℕ) (id : Option ℕ) → links_fit a m (Link key id) ≡ true → length key ≡ a.key_size
link_key a m key None e = key_size_of a key e
link_key a m key (Some id) e = key_size_of a key (both_true (key_fits a key) _ e).0

link_room : (a : MapAttr) (m : ByKey ℕ) (key : List ℕ) (id : Option ℕ) → links_fit a m (Link key id) ≡ true → IfSome id (λ _. has_room a m key ≡ true)
link_room a m key None e = tt
link_room a m key (Some id) e = (both_true (key_fits a key) _ e).1

-- of the bytes of an id what holds of the id
of_bytes : (value : Option (List ℕ)) (id : Option ℕ) (P Q : Type 0) → option_map index_of value ≡ id → (P → Q) → IfSome id (λ _. P) → IfSome value (λ _. Q)
of_bytes None id P Q e leads h = tt
of_bytes (Some value) id P Q e leads h = leads (subst (λ (o : Option ℕ). IfSome o (λ _. P)) (sym e) h)

sized : (t : Kept) (value : Option (List ℕ)) → t.value_size ≡ 4 → IfSome value (λ v. length v ≡ 4) → IfSome value (λ v. length v ≡ t.value_size)
sized t None four long = tt
sized t (Some value) four long = long ∙ sym four

pub ready : (a : MapAttr) (t : Kept) (key : List ℕ) (id : Option ℕ) (value : Option (List ℕ)) → IsHashOfIds a t → IsTrue (links_fit a (ids_of t.entries) (Link key id)) → option_map index_of value ≡ id → IfSome value (λ v. length v ≡ 4) → IsReady t key value
ready a t key id value h fits ids long =
    record {
      key_size = link_key a (ids_of t.entries) key id fits ∙ sym h.key_size;
      value_size = sized t value h.value_size long;
      room = of_bytes value id (has_room a (ids_of t.entries) key ≡ true) _ ids
          (λ room absent. rw h.capacity (absent_room a t.entries key (sym (same_room a t.entries key) ∙ room) absent)) (link_room a (ids_of t.entries) key id fits);
    }

pub ids_put : (t new : Kept) (key : List ℕ) (id : Option ℕ) (value : Option (List ℕ)) → option_map index_of value ≡ id → new ≡ with_entries t (put_under t.entries key value) → ids_of new.entries ≡ put_under (ids_of t.entries) key id
ids_put t new key id value ids after = ap (λ (k : Kept). ids_of k.entries) after ∙ ids_of-put_under t.entries key value ∙ ap (put_under (ids_of t.entries) key) ids

long_at : (value : Option (List ℕ)) (new : List ℕ) → IfSome value (λ v. length v ≡ 4) → value ≡ Some new → length new ≡ 4
long_at value new long is = subst (λ (o : Option (List ℕ)). IfSome o (λ v. length v ≡ 4)) is long

pub held_exchanged : (a : MapAttr) (t new : Kept) (key : List ℕ) (id : Option ℕ) (value : Option (List ℕ)) → IsHashOfIds a t → IsTrue (links_fit a (ids_of t.entries) (Link key id)) → option_map index_of value ≡ id → IfSome value (λ v. length v ≡ 4)
    → new ≡ with_entries t (put_under t.entries key value) → IsHashOfIds a new
held_exchanged a t new key id value h fits ids long after =
    record {
      good = h.good;
      capacity = ap (λ (k : Kept). k.capacity) after ∙ h.capacity;
      key_size = ap (λ (k : Kept). k.key_size) after ∙ h.key_size;
      value_size = ap (λ (k : Kept). k.value_size) after ∙ h.value_size;
      ids = subst (λ (m : ByKey (List ℕ)). EachEntry m (λ key value. length value ≡ 4)) (sym (ap (λ (k : Kept). k.entries) after))
          (each-put_under t.entries key value h.ids (λ v is. long_at value v long is));
      well = subst (λ m. IsWell a (Links m)) (sym (ids_put t new key id value ids after)) (stays a (Links (ids_of t.entries)) (Link key id) (record { well = h.well; fits = fits })).well;
    }

-- what stood there
pub was_there : (a : MapAttr) (t : Kept) (key before : List ℕ) → IsHashOfIds a t → Some before ≡ map.get t.entries key → length before ≡ 4
was_there a t key before h is = h.ids key before (sym is)

pub id_before : (m : ByKey (List ℕ)) (key before : List ℕ) (id : ℕ) → Some before ≡ map.get m key → id ≡ index_of before → Some id ≡ map.get (ids_of m) key
id_before m key before id is same = ap Some same ∙ ap (option_map index_of) is ∙ sym (get-ids_of m key)

pub no_id_before : (m : ByKey (List ℕ)) (key : List ℕ) → None ≡ map.get m key → None ≡ map.get (ids_of m) key
no_id_before m key is = ap (option_map index_of) is ∙ sym (get-ids_of m key)

-- a delete
pub delete_fits : (a : MapAttr) (m : ByKey ℕ) (key : List ℕ) → length key ≡ a.key_size → links_fit a m (Link key None) ≡ true
delete_fits a m key size = key_fits_of a key size

pub delete_done : (a : MapAttr) (m n : ByKey ℕ) (key : List ℕ) (before : ℕ) (back : Back) → length key ≡ a.key_size → Some before ≡ map.get m key → n ≡ put_under m key None → back ≡ Link key (Some before)
    → map_step a (Links m) (Delete key) ≡ goes (Links n) Done back
delete_done a m n key before back size there after same = rw (key_fits_of a key size, ← there, after, same) refl

pub delete_refused : (a : MapAttr) (m n : ByKey ℕ) (key : List ℕ) → length key ≡ a.key_size → None ≡ map.get m key → n ≡ put_under m key None → (map_step a (Links m) (Delete key) ≡ Err ENOENT) × (Links n ≡ Links m)
delete_refused a m n key size absent after = (rw (key_fits_of a key size, ← absent) refl, ap Links (after ∙ put_under-absent m key (sym absent)))

-- an id put under a key
by_put_fault : (there one two full : Bool) (s : Step)
    → (if there then (if one then Err EEXIST else s) else if two then Err ENOENT else if full then Err E2BIG else s)
    ≡ unless (if there then (if one then Some EEXIST else None) else if two then Some ENOENT else if full then Some E2BIG else None) s
by_put_fault true true two full s = refl
by_put_fault true false two full s = refl
by_put_fault false one true full s = refl
by_put_fault false one false true s = refl
by_put_fault false one false false s = refl

set_step : (a : MapAttr) (m : ByKey (List ℕ)) (key : List ℕ) (id flag : ℕ) → flag ≤ 2 → length key ≡ a.key_size
    → map_step a (Links (ids_of m)) (SetLink key id flag) ≡ unless (put_fault a.max_entries m key flag E2BIG) (goes (Links (map.insert (ids_of m) key id)) Done (Link key (map.get (ids_of m) key)))
set_step a m key id flag small size =
    let flagged : is_flag flag ≡ true = grind (arith, nat_tests) in
    rw (flagged, key_fits_of a key size, contains_key-ids_of m key, len-ids_of m)
    (by_put_fault (map.contains_key m key) (flag == 1) (flag == 2) (nat_le a.max_entries (map.len m)) (goes (Links (map.insert (ids_of m) key id)) Done (Link key (map.get (ids_of m) key))))

pub set_refused : (a : MapAttr) (m : ByKey (List ℕ)) (key : List ℕ) (id flag : ℕ) (errno : Errno) → flag ≤ 2 → length key ≡ a.key_size → put_fault a.max_entries m key flag E2BIG ≡ Some errno → map_step a (Links (ids_of m)) (SetLink key id flag) ≡ Err errno
set_refused a m key id flag errno small size fault = set_step a m key id flag small size ∙ ap (λ f. unless f (goes (Links (map.insert (ids_of m) key id)) Done (Link key (map.get (ids_of m) key)))) fault

pub set_done : (a : MapAttr) (m : ByKey (List ℕ)) (n : ByKey ℕ) (key : List ℕ) (id flag : ℕ) (before : Option ℕ) (back : Back) → flag ≤ 2 → length key ≡ a.key_size → put_fault a.max_entries m key flag E2BIG ≡ None
    → before ≡ map.get (ids_of m) key → n ≡ put_under (ids_of m) key (Some id) → back ≡ Link key before → map_step a (Links (ids_of m)) (SetLink key id flag) ≡ goes (Links n) Done back
set_done a m n key id flag before back small size none found after same =
    set_step a m key id flag small size
    ∙ ap (λ f. unless f (goes (Links (map.insert (ids_of m) key id)) Done (Link key (map.get (ids_of m) key)))) none
    ∙ ap₂ (λ (x : ByKey ℕ) b. goes (Links x) Done b) (sym after) (ap (Link key) (sym found) ∙ sym same)

room_of_no_fault : (a : MapAttr) (m : ByKey (List ℕ)) (key : List ℕ) (flag : ℕ) → put_fault a.max_entries m key flag E2BIG ≡ None → has_room a m key ≡ true
room_of_no_fault a m key flag none = cases (map.contains_key m key) (flag == 1) (flag == 2) (nat_le a.max_entries (map.len m)) refl none
  where
    cases : (there one two full : Bool) → nat_le a.max_entries (map.len m) ≡ full → (if there then (if one then Some EEXIST else None) else if two then Some ENOENT else if full then Some E2BIG else None) ≡ None
        → there || nat_lt (map.len m) a.max_entries ≡ true
    cases true one two full is e = refl
    cases false one true full is e = cc
    cases false one false true is e = cc
    cases false one false false is e = grind (arith, nat_tests)

pub set_fits : (a : MapAttr) (m : ByKey (List ℕ)) (key : List ℕ) (id flag : ℕ) → length key ≡ a.key_size → put_fault a.max_entries m key flag E2BIG ≡ None → links_fit a (ids_of m) (Link key (Some id)) ≡ true
set_fits a m key id flag size none = and_true _ _ (key_fits_of a key size) (same_room a m key ∙ room_of_no_fault a m key flag none)

-- ---- a turning
pub turned : (a : MapAttr) (m n : ByKey ℕ) (back : Back) (key : List ℕ) (id before left : Option ℕ) → IsWell a (Links m) → IsTrue (links_fit a m back) → back ≡ Link key id
    → n ≡ put_under m key id → before ≡ map.get m key → left ≡ before
    → IsTurned (record { attr = a; contents = Links m; charge = charge_of a; roomy = true }) back (record { attr = a; contents = Links n; charge = charge_of a; roomy = true }) (Link key left)
turned a m n back key id before left w fits is after found kept =
    let exchange : exchanged (Links m) back ≡ (Links n, Link key left) =
    ap (exchanged (Links m)) is ∙ ap₂ (λ (x : ByKey ℕ) o. (Links x, Link key o)) (sym after) (sym (kept ∙ found)) in
    let t : IsTurnable a (Links n) (Link key left) = subst (λ (r : Contents × Back). IsTurnable a r.0 r.1) exchange (stays a (Links m) back (record { well = w; fits = fits })) in
    record { exchange = exchange; make = record { attr = refl; charge = refl; roomy = refl }; fits = t.fits }

-- ---- a new hash of maps
fresh_links : (a : MapAttr) → a.kind ≡ HashOfMaps → fresh a ≡ Links map.empty
fresh_links a kind = ap (λ k. fresh_of_type k a.value_size a.max_entries) kind

no_ids : (m : ByKey (List ℕ)) → m ≡ map.empty → ids_of m ≡ map.empty
no_ids m is = ap ids_of is ∙ ids_of-empty

pub empty_is_fresh : (a : MapAttr) (m : ByKey (List ℕ)) (count : ℕ) → a.kind ≡ HashOfMaps → count ≡ map.len m → nat_eq count 0 ≡ true → Links (ids_of m) ≡ fresh a
empty_is_fresh a m count kind is none = ap Links (no_ids m (map.empty_of_len m (grind (arith, nat_tests)))) ∙ sym (fresh_links a kind)

same_links : (m n : ByKey ℕ) → Links m ≡ Links n → m ≡ n
same_links m n e = cc

pub fresh_is_empty : (a : MapAttr) (m : ByKey (List ℕ)) (count : ℕ) → a.kind ≡ HashOfMaps → count ≡ map.len m → Links (ids_of m) ≡ fresh a → nat_eq count 0 ≡ true
fresh_is_empty a m count kind is e =
    let none : map.len m ≡ 0 = sym (len-ids_of m) ∙ ap map.len (same_links (ids_of m) map.empty (e ∙ fresh_links a kind)) ∙ map.len-empty key_cmp ℕ in
    grind (arith, nat_tests)

pub new_is_fresh : (a : MapAttr) (t : Kept) → a.kind ≡ HashOfMaps → t ≡ record { entries = map.empty; capacity = a.max_entries; key_size = a.key_size; value_size = 4 } → SeenAs a (Links (ids_of t.entries)) ≡ SeenAs a (fresh a)
new_is_fresh a t kind is = ap (SeenAs a) (ap Links (no_ids t.entries (ap (λ (k : Kept). k.entries) is)) ∙ sym (fresh_links a kind))

no_entry : (m : ByKey (List ℕ)) → m ≡ map.empty → EachEntry m (λ key value. length value ≡ 4)
no_entry m is key value e = absurd (none_some (sym (ap (λ (n : ByKey (List ℕ)). map.get n key) is ∙ map.get-empty key_cmp key) ∙ e))
  where
    none_some : None ≡ Some value → ⊥
    none_some e = cc

pub held_new : (a : MapAttr) (t : Kept) → IsGoodFor HashOfMaps a → t ≡ record { entries = map.empty; capacity = a.max_entries; key_size = a.key_size; value_size = 4 } → IsHashOfIds a t
held_new a t good is =
    let none : t.entries ≡ map.empty = ap (λ (k : Kept). k.entries) is in
    record {
      good = good;
      capacity = ap (λ (k : Kept). k.capacity) is;
      key_size = ap (λ (k : Kept). k.key_size) is;
      value_size = ap (λ (k : Kept). k.value_size) is;
      ids = no_entry t.entries none;
      well = subst (IsWell a) (fresh_links a good.type ∙ ap Links (sym (no_ids t.entries none))) (fresh_is_well a);
    }
