-- A map of entries holds none of them exactly when it is as a new one.
use Rattle.std.proofs.Common.{◌≡◌, ℕ, true, List, nat_eq, refl, sym, ap, ◌∙◌, arith}
use Rattle.std.specs.FinMap as map
use Rattle.std.proofs.lemmas.Bool.Decides.{nat_tests}
use Rattle.bt_mapkind.specs.declared.attr.MapAttr.{MapAttr}
use Rattle.bt_mapkind.specs.declared.attr.MapType.{MapType}
use Rattle.bt_mapkind.specs.declared.attr.MapType.TheVariants.{Array, Hash, LpmTrie, Queue, Stack, ArrayOfMaps, ProgArray, HashOfMaps}
use Rattle.bt_mapkind.specs.Contents.{ByKey, Entries, fresh, fresh_of_type}
use Rattle.bt_mapkind.specs.Well.{shape_of_type, OfEntries}
use Rattle.map_table.specs.Order.{key_cmp}

-- a new map of a type that holds entries has none
entries_of_type : (kind : MapType) (size count : ℕ) → shape_of_type kind ≡ OfEntries → fresh_of_type kind size count ≡ Entries map.empty
entries_of_type Array size count is = cc
entries_of_type Hash size count is = refl
entries_of_type LpmTrie size count is = refl
entries_of_type Queue size count is = cc
entries_of_type Stack size count is = cc
entries_of_type ArrayOfMaps size count is = cc
entries_of_type ProgArray size count is = cc
entries_of_type HashOfMaps size count is = cc

pub fresh_entries : (a : MapAttr) → shape_of_type a.kind ≡ OfEntries → fresh a ≡ Entries map.empty
fresh_entries a is = entries_of_type a.kind a.value_size a.max_entries is

pub empty_is_fresh : (a : MapAttr) (m : ByKey (List ℕ)) (count : ℕ) → shape_of_type a.kind ≡ OfEntries → count ≡ map.len m → nat_eq count 0 ≡ true → Entries m ≡ fresh a
empty_is_fresh a m count shape is none = ap Entries (map.empty_of_len m (grind (arith, nat_tests))) ∙ sym (fresh_entries a shape)

same_entries : (m n : ByKey (List ℕ)) → Entries m ≡ Entries n → m ≡ n
same_entries m n e = cc

pub fresh_is_empty : (a : MapAttr) (m : ByKey (List ℕ)) (count : ℕ) → shape_of_type a.kind ≡ OfEntries → count ≡ map.len m → Entries m ≡ fresh a → nat_eq count 0 ≡ true
fresh_is_empty a m count shape is e =
    let none : map.len m ≡ 0 = ap map.len (same_entries m map.empty (e ∙ fresh_entries a shape)) ∙ map.len-empty key_cmp (List ℕ) in
    grind (arith, nat_tests)
