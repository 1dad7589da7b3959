-- The finite map that sorted entries are, at a place of a key and at a gap.
use Rattle.std.proofs.Common.{◌≡◌, ℕ, suc, ◌<◌, ◌≤◌, Bool, true, false, not, List, [], length, get_or, set, Option, Some, None, cond, refl, sym, ap, ap₂, subst, ◌∙◌, arith}
use Rattle.std.specs.Ordering.{is_eq, eq_by_cmp}
use Rattle.std.specs.Cmp.{alike_right, eq_by_cmp_equiv}
use Rattle.std.specs.Cmp.Lexicographic.{nat_list_cmp_total}
use Rattle.std.specs.List.{insert, remove, slice_get}
use Rattle.std.proofs.lemmas.List.{get_or-map, length-map}
use Rattle.std.proofs.lemmas.Option.{slice_get-get_or, slice_get_past}
use Rattle.std.specs.FinMap as map
use Rattle.std.specs.FinMap.{nat_cmp-IsAntisymmetric, slice_cmp-IsAntisymmetric}
use Rattle.std.specs.FinMap.Entries.{put, find, where_key, is_sorted-put, is_sorted-where_key, find-where_key}
use Rattle.bt_mapkind.specs.Contents.{ByKey}
use Rattle.bt_mapkind.proofs.Keyed.{same_of}
use Rattle.map_table.specs.Order.{key_cmp, IsPlace, IsGap}
use Rattle.map_table.specs.Table.{key_after}
use Rattle.map_table.specs.Index.{IsNotIn}
use Rattle.map_table.proofs.SortedLemmas.{Listed, keys_of, IsSorted, differs, holds, told, Stands, stands, falls, find_at_place, find_at_gap, find_absent, put_at_place, put_at_gap, drop_at_place, next_suc, next_gap}

-- ---- a finite map
sorted : (m : ByKey (List ℕ)) → IsSorted (map.entries m)
sorted m = told _ (map.entries_sorted m)

pub length-keys : (m : ByKey (List ℕ)) → length (map.keys m) ≡ map.len m
length-keys m = length-map (map.entries m) (λ e. e.0) ∙ sym (map.len-entries m)

stands_in : (m : ByKey (List ℕ)) (key : List ℕ) (place : ℕ) → IsPlace (map.keys m) key place → Stands key (map.entries m) place
stands_in m key place p = stands key (map.entries m) place (sorted m) p.within p.is

pub get_place : (m : ByKey (List ℕ)) (key : List ℕ) (place : ℕ) → IsPlace (map.keys m) key place → map.get m key ≡ Some (get_or (map.values m) place [])
get_place m key place p =
    let within : place < length (map.entries m) = omega (arith, p.within, length-map (map.entries m) (λ e. e.0)) in
    map.get-entries m key
    ∙ find_at_place key (map.entries m) place ([], []) (stands_in m key place p)
    ∙ ap Some (sym (get_or-map (λ e. e.1) (map.entries m) place ([], []) [] within))

pub get_gap : (m : ByKey (List ℕ)) (key : List ℕ) (place : ℕ) → IsGap (map.keys m) key place → map.get m key ≡ None
get_gap m key place g = map.get-entries m key ∙ find_at_gap key (map.entries m) place (sorted m) (falls key (map.entries m) place g)

pub get_absent : (m : ByKey (List ℕ)) (key : List ℕ) → IsNotIn (map.keys m) key → map.get m key ≡ None
get_absent m key none = map.get-entries m key ∙ find_absent key (map.entries m) none.other

pub not_both : (o : Option (List ℕ)) (value : List ℕ) → o ≡ None → o ≡ Some value → ⊥
not_both o value none some = let no : None ≡ Some value = sym none ∙ some in cc no

-- the least key above the one at a place, or above one that would go there
pub after_place : (m : ByKey (List ℕ)) (key : List ℕ) (place : ℕ) → IsPlace (map.keys m) key place → key_after m key ≡ slice_get (map.keys m) (suc place)
after_place m key place p = next_suc key (map.entries m) place (sorted m) (stands_in m key place p)

pub after_gap : (m : ByKey (List ℕ)) (key : List ℕ) (place : ℕ) → IsGap (map.keys m) key place → key_after m key ≡ slice_get (map.keys m) place
after_gap m key place g = next_gap key (map.entries m) place (falls key (map.entries m) place g)

-- the key and the entry at an index, and that there is none past the last
pub no_key : (m : ByKey (List ℕ)) (n : ℕ) → map.len m ≤ n → None ≡ slice_get (map.keys m) n
no_key m n past = sym (slice_get_past (map.keys m) n (omega (arith, length-keys m)))

pub key_seen : (m : ByKey (List ℕ)) (key : List ℕ) (n : ℕ) → n < map.len m → key ≡ get_or (map.keys m) n [] → Some key ≡ slice_get (map.keys m) n
key_seen m key n below is = ap Some is ∙ sym (slice_get-get_or (map.keys m) n [] (omega (arith, length-keys m)))

pub no_entry : (m : ByKey (List ℕ)) (n : ℕ) → map.len m ≤ n → None ≡ slice_get (map.entries m) n
no_entry m n past = sym (slice_get_past (map.entries m) n (omega (arith, map.len-entries m)))

pub entry_seen : (m : ByKey (List ℕ)) (key value : List ℕ) (n : ℕ) → n < map.len m → key ≡ get_or (map.keys m) n [] → value ≡ get_or (map.values m) n [] → Some (key, value) ≡ slice_get (map.entries m) n
entry_seen m key value n below k v =
    let within : n < length (map.entries m) = omega (arith, map.len-entries m) in
    ap₂ (λ (a b : List ℕ). Some (a, b)) (k ∙ get_or-map (λ e. e.0) (map.entries m) n ([], []) [] within) (v ∙ get_or-map (λ e. e.1) (map.entries m) n ([], []) [] within)
    ∙ sym (slice_get-get_or (map.entries m) n ([], []) within)

-- ---- the map that entries are
pub entries_seen : (es : Listed) → IsSorted es → map.entries (map.from_sorted {R = key_cmp} es) ≡ es
entries_seen es h = map.entries-from_sorted key_cmp es (holds _ h)

-- an edit of the entries, and the finite map that they are then
pub record IsEdit (es : Listed) (m : ByKey (List ℕ)) : Type 0 where
  pub sorted : IsSorted es
  pub is : map.from_sorted es ≡ m

put_seen : (es : Listed) (key value : List ℕ) → IsSorted es → IsEdit (put key_cmp key value es) (map.insert (map.from_sorted es) key value)
put_seen es key value h =
    let after = is_sorted-put key_cmp nat_list_cmp_total key value es (holds _ h) in
    record {
      sorted = told _ after;
      is = map.same_entries_map _ _
          (map.entries-from_sorted key_cmp _ after ∙ sym (map.entries-insert nat_list_cmp_total (map.from_sorted es) key value ∙ ap (put key_cmp key value) (entries_seen es h)));
    }

turned : {A : Type 0} (b : Bool) (x y : A) → cond (not b) x y ≡ cond b y x
turned true x y = refl
turned false x y = refl

drop_seen : (es : Listed) (key : List ℕ) → IsSorted es → IsEdit (where_key key_cmp (differs key) es) (map.remove (map.from_sorted es) key)
drop_seen es key h =
    let after = is_sorted-where_key key_cmp (differs key) es (holds _ h) in
    record {
      sorted = told _ after;
      is = map.same_map nat_list_cmp_total (slice_cmp-IsAntisymmetric nat_cmp-IsAntisymmetric) _ _ (λ q.
          map.get-from_sorted key_cmp _ q after
          ∙ find-where_key key_cmp (differs key) q (λ x t. ap (λ r. not (is_eq r)) (sym (alike_right nat_list_cmp_total q x key t))) es
          ∙ turned (eq_by_cmp key_cmp key q) (find key_cmp q es) None
          ∙ ap (λ b. cond b None (find key_cmp q es)) ((eq_by_cmp_equiv nat_list_cmp_total).symm key q)
          ∙ ap (cond (eq_by_cmp key_cmp q key) None) (sym (map.get-from_sorted key_cmp es q (holds _ h)))
          ∙ sym (map.get-remove nat_list_cmp_total (map.from_sorted es) key q));
    }

-- another value at a place
pub set_seen : (es : Listed) (key value : List ℕ) (place : ℕ) → IsSorted es → IsPlace (keys_of es) key place → IsEdit (set es place (key, value)) (map.insert (map.from_sorted es) key value)
set_seen es key value place h p =
    let within : place < length es = omega (arith, p.within, length-map es (λ e. e.0)) in
    let here : (get_or es place ([], [])).0 ≡ key = sym (get_or-map (λ e. e.0) es place ([], []) [] within) ∙ p.is in
    let is : put key_cmp key value es ≡ set es place (key, value) = put_at_place key value es place ([], []) (stands key es place h p.within p.is) ∙ ap (λ k. set es place (k, value)) here in
    subst (λ l. IsEdit l (map.insert (map.from_sorted es) key value)) is (put_seen es key value h)

-- the entry at a place taken away
pub remove_seen : (es : Listed) (key : List ℕ) (place : ℕ) → IsSorted es → IsPlace (keys_of es) key place → IsEdit (remove es place) (map.remove (map.from_sorted es) key)
remove_seen es key place h p =
    subst (λ l. IsEdit l (map.remove (map.from_sorted es) key)) (drop_at_place key es place h (stands key es place h p.within p.is)) (drop_seen es key h)

-- a new entry in a gap
pub insert_seen : (es : Listed) (key value : List ℕ) (place : ℕ) → IsSorted es → IsGap (keys_of es) key place → IsEdit (insert es place (key, value)) (map.insert (map.from_sorted es) key value)
insert_seen es key value place h g =
    subst (λ l. IsEdit l (map.insert (map.from_sorted es) key value)) (put_at_gap key value es place (falls key es place g)) (put_seen es key value h)

-- a key that is not there is taken away
pub remove_gap : (m : ByKey (List ℕ)) (key : List ℕ) → map.get m key ≡ None → map.remove m key ≡ m
remove_gap m key absent =
    map.same_map nat_list_cmp_total (slice_cmp-IsAntisymmetric nat_cmp-IsAntisymmetric) _ _ (λ q. map.get-remove nat_list_cmp_total m key q ∙ cases q (eq_by_cmp key_cmp q key) refl)
  where
    cases : (q : List ℕ) (b : Bool) → eq_by_cmp key_cmp q key ≡ b → cond b None (map.get m q) ≡ map.get m q
    cases q true e = sym (ap (map.get m) (same_of q key e) ∙ absent)
    cases q false e = refl
