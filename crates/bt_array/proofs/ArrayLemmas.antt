-- Arrays: their values are those that the map can hold, a change follows the table, and a new array is all zero.
use Rattle.std.proofs.Common.{◌≡◌, ℕ, List, [], length, get_or, set, replicate, None, refl, sym, ap, ◌∙◌}
use Rattle.std.specs.List.{All}
use Rattle.std.proofs.lemmas.List.Elements.{All-set, All-replicate, All-same}
use Rattle.bt_mapkind.specs.declared.attr.MapAttr.{MapAttr}
use Rattle.bt_mapkind.specs.declared.attr.MapType.TheVariants.{Array}
use Rattle.bt_mapkind.specs.declared.atomic.AtomicOp.{AtomicOp}
use Rattle.bt_mapkind.specs.declared.atomic.AtomicSize.{AtomicSize}
use Rattle.bt_mapkind.specs.Attributes.{IsGoodFor}
use Rattle.bt_mapkind.specs.Contents.{Values, fresh, fresh_of_type}
use Rattle.bt_mapkind.specs.Atomic.{overwritten, part_of, size_in_bytes, bytes_after}
use Rattle.bt_mapkind.specs.Index.{index_of}
use Rattle.bt_mapkind.specs.Step.{part_fault}
use Rattle.bt_mapkind.specs.Well.{IsWell, shape_of_type}
use Rattle.bt_mapkind.proofs.OfKinds.{replicate_of_all}
use Rattle.bt_mapkind.proofs.Turning.{no_part_fault, old_size, length-combined}

-- what an array keeps
pub record IsArray (a : MapAttr) (vs : List (List ℕ)) : Type 0 where
  pub good : IsGoodFor Array a
  pub count : length vs ≡ a.max_entries
  pub sizes : All (λ v. length v ≡ a.value_size) vs

pub is_well : (a : MapAttr) (vs : List (List ℕ)) → IsArray a vs → IsWell a (Values vs)
is_well a vs k = record { shape = ap shape_of_type k.good.type; sizes = (k.count, k.sizes) }

-- the sizes after an atomic instruction
pub sizes_combined : (a : MapAttr) (vs ws : List (List ℕ)) (key : List ℕ) (offset : ℕ) (size : AtomicSize) (op : AtomicOp) (operand index : ℕ) → IsArray a vs → part_fault a vs key offset (size_in_bytes size) ≡ None → index ≡ index_of key
    → ws ≡ set vs index (overwritten (get_or vs index []) offset (bytes_after op size operand (part_of (get_or vs index []) offset (size_in_bytes size))))
    → All (λ v. length v ≡ a.value_size) ws
sizes_combined a vs ws key offset size op operand index k none at is =
    let p = no_part_fault a vs key offset (size_in_bytes size) none in
    let old : length (get_or vs index []) ≡ a.value_size = ap (λ i. length (get_or vs i [])) at ∙ old_size a vs key p.there (is_well a vs k) in
    All-same (λ v. length v ≡ a.value_size) ws _ is (All-set (λ v. length v ≡ a.value_size) vs index _ (length-combined a _ offset size op operand old p.range) k.sizes)

-- ---- a new array
abbrev IsZero : List ℕ → Type 0
IsZero v = All (λ byte. byte ≡ 0) v

fresh_array : (a : MapAttr) → IsGoodFor Array a → fresh a ≡ Values (replicate a.max_entries (replicate a.value_size 0))
fresh_array a good = ap (λ kind. fresh_of_type kind a.value_size a.max_entries) good.type

pub zero_is_fresh : (a : MapAttr) (vs : List (List ℕ)) → IsArray a vs → All IsZero vs → Values vs ≡ fresh a
zero_is_fresh a vs k zero =
    ap Values (replicate_of_all (replicate a.value_size 0) vs a.max_entries k.count
    (λ i d below. replicate_of_all 0 (get_or vs i d) a.value_size (k.sizes i d below) (zero i d below)))
    ∙ sym (fresh_array a k.good)

same_values : (vs ws : List (List ℕ)) → Values vs ≡ Values ws → vs ≡ ws
same_values vs ws e = cc

pub fresh_is_zero : (a : MapAttr) (vs : List (List ℕ)) → IsArray a vs → Values vs ≡ fresh a → All IsZero vs
fresh_is_zero a vs k e =
    All-same IsZero vs _ (same_values _ _ (e ∙ fresh_array a k.good)) (All-replicate IsZero a.max_entries _ (All-replicate (λ byte. byte ≡ 0) a.value_size 0 refl))
