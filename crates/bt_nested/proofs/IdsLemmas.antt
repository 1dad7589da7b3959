-- The ids that stand under keys: each map of them made of the map of their bytes.
use Rattle.std.proofs.Common.{◌≡◌, ℕ, ◌<◌, ◌^◌, Bool, true, false, ◌&&◌, cond, T, List, [], ◌∷◌, length, map as each, Option, Some, None, option_map, is_some, refl, sym, ap, ap₂, subst, ◌∙◌, w32}
use Rattle.std.specs.Int.{to_le_bytes, from_le_bytes}
use Rattle.std.specs.Ordering.{is_lt, eq_by_cmp}
use Rattle.std.specs.Cmp.Lexicographic.{nat_list_cmp_total}
use Rattle.std.proofs.lemmas.List.{length-map}
use Rattle.std.proofs.lemmas.Nat.{from_le_bytes-to_le_bytes_4}
use Rattle.std.proofs.lemmas.Simd.{map-map}
use Rattle.std.specs.FinMap as map
use Rattle.std.specs.FinMap.{nat_cmp-IsAntisymmetric, slice_cmp-IsAntisymmetric}
use Rattle.std.specs.FinMap.Entries.{find, is_sorted, below_all}
use Rattle.bt_mapkind.specs.Contents.{ByKey}
use Rattle.bt_mapkind.specs.Index.{index_of}
use Rattle.bt_mapkind.specs.Exchange.{put_under}
use Rattle.map_table.specs.Order.{key_cmp}
use Rattle.bt_mapkind.proofs.Keyed.{same_of}
use Rattle.bt_nested.specs.Ids.{ids_of}

-- ---- entries with other values under the same keys
module _ {X Y : Type 0} (f : X → Y) where
  abbrev over : List (List ℕ × X) → List (List ℕ × Y)
  over es = each (λ e. (e.0, f e.1)) es

  map_either : (b : Bool) (x y : Option X) → option_map f (cond b x y) ≡ cond b (option_map f x) (option_map f y)
  map_either true x y = refl
  map_either false x y = refl

  below-over : (k : List ℕ) (es : List (List ℕ × X)) → below_all key_cmp k (over es) ≡ below_all key_cmp k es
  below-over k [] = refl
  below-over k (e ∷ es) = ap (λ b. is_lt (key_cmp k e.0) && b) (below-over k es)

  sorted-over : (es : List (List ℕ × X)) → is_sorted key_cmp (over es) ≡ is_sorted key_cmp es
  sorted-over [] = refl
  sorted-over (e ∷ es) = ap₂ (λ a b. a && b) (below-over e.0 es) (sorted-over es)

  find-over : (k : List ℕ) (es : List (List ℕ × X)) → find key_cmp k (over es) ≡ option_map f (find key_cmp k es)
  find-over k [] = refl
  find-over k (e ∷ es) = ap (cond (eq_by_cmp key_cmp k e.0) (Some (f e.1))) (find-over k es) ∙ sym (map_either (eq_by_cmp key_cmp k e.0) (Some e.1) (find key_cmp k es))

-- ---- the ids
entries-ids_of : (m : ByKey (List ℕ)) → map.entries (ids_of m) ≡ each (λ e. (e.0, index_of e.1)) (map.entries m)
unfolding ids_of
entries-ids_of m = map.entries-from_sorted key_cmp _ (subst T (sym (sorted-over index_of (map.entries m))) (map.entries_sorted m))

pub get-ids_of : (m : ByKey (List ℕ)) (key : List ℕ) → map.get (ids_of m) key ≡ option_map index_of (map.get m key)
get-ids_of m key =
    map.get-entries (ids_of m) key ∙ ap (find key_cmp key) (entries-ids_of m) ∙ find-over index_of key (map.entries m) ∙ ap (option_map index_of) (sym (map.get-entries m key))

pub keys-ids_of : (m : ByKey (List ℕ)) → map.keys (ids_of m) ≡ map.keys m
keys-ids_of m = ap (λ (l : List (List ℕ × ℕ)). each (λ e. e.0) l) (entries-ids_of m) ∙ map-map (λ (e : List ℕ × ℕ). e.0) (λ (e : List ℕ × List ℕ). (e.0, index_of e.1)) (map.entries m)

pub len-ids_of : (m : ByKey (List ℕ)) → map.len (ids_of m) ≡ map.len m
len-ids_of m = map.len-entries (ids_of m) ∙ ap length (entries-ids_of m) ∙ length-map (map.entries m) _ ∙ sym (map.len-entries m)

some_of-map : (o : Option (List ℕ)) → is_some (option_map index_of o) ≡ is_some o
some_of-map None = refl
some_of-map (Some value) = refl

pub contains_key-ids_of : (m : ByKey (List ℕ)) (key : List ℕ) → map.contains_key (ids_of m) key ≡ map.contains_key m key
contains_key-ids_of m key = ap is_some (get-ids_of m key) ∙ some_of-map (map.get m key)

same_ids : (m n : ByKey ℕ) → ((key : List ℕ) → map.get m key ≡ map.get n key) → m ≡ n
same_ids m n same = map.same_map nat_list_cmp_total (slice_cmp-IsAntisymmetric nat_cmp-IsAntisymmetric) m n same

-- an id put under a key, or taken away
pub ids_of-put_under : (m : ByKey (List ℕ)) (key : List ℕ) (value : Option (List ℕ)) → ids_of (put_under m key value) ≡ put_under (ids_of m) key (option_map index_of value)
ids_of-put_under m key None =
    same_ids _ _ (λ other.
    get-ids_of (map.remove m key) other ∙ ap (option_map index_of) (map.get-remove nat_list_cmp_total m key other) ∙ map_either index_of (eq_by_cmp key_cmp other key) None (map.get m other)
    ∙ sym (map.get-remove nat_list_cmp_total (ids_of m) key other ∙ ap (cond (eq_by_cmp key_cmp other key) None) (get-ids_of m other)))
ids_of-put_under m key (Some value) =
    same_ids _ _ (λ other.
    get-ids_of (map.insert m key value) other ∙ ap (option_map index_of) (map.get-insert nat_list_cmp_total m key value other) ∙ map_either index_of (eq_by_cmp key_cmp other key) (Some value) (map.get m other)
    ∙ sym (map.get-insert nat_list_cmp_total (ids_of m) key (index_of value) other ∙ ap (cond (eq_by_cmp key_cmp other key) (Some (index_of value))) (get-ids_of m other)))

pub ids_of-empty : ids_of map.empty ≡ map.empty
ids_of-empty = same_ids _ _ (λ key. get-ids_of map.empty key ∙ ap (option_map index_of) (map.get-empty key_cmp key) ∙ sym (map.get-empty key_cmp key))

-- a key that is not there is taken away
pub put_under-absent : {X : Type 0} (m : ByKey X) (key : List ℕ) → map.get m key ≡ None → put_under m key None ≡ m
put_under-absent {X} m key absent =
    map.same_map nat_list_cmp_total (slice_cmp-IsAntisymmetric nat_cmp-IsAntisymmetric) _ _ (λ other. map.get-remove nat_list_cmp_total m key other ∙ cases other (eq_by_cmp key_cmp other key) refl)
  where
    cases : (other : List ℕ) (b : Bool) → eq_by_cmp key_cmp other key ≡ b → cond b None (map.get m other) ≡ map.get m other
    cases other true e = sym (ap (map.get m) (same_of other key e) ∙ absent)
    cases other false e = refl

-- ---- bytes
pub id_again : (id : ℕ) (bytes : List ℕ) → id < 2 ^ 32 → bytes ≡ to_le_bytes w32 id → index_of bytes ≡ id
unfolding index_of
id_again id bytes small is = ap (from_le_bytes w32) is ∙ from_le_bytes-to_le_bytes_4 id small
