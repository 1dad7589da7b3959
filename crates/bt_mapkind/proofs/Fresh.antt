-- A new map holds what such a map can hold.
use Rattle.std.proofs.Common.{◌≡◌, ◌≤◌, ℕ, List, Some, None, refl, sym, ◌∙◌, arith}
use Rattle.std.proofs.lemmas.List.{length-replicate}
use Rattle.std.proofs.lemmas.List.Elements.{All-replicate, All-nil}
use Rattle.std.specs.Ordering.{nat_cmp}
use Rattle.std.specs.Cmp.Lexicographic.{slice_cmp}
use Rattle.std.specs.FinMap as map
use Rattle.bt_mapkind.specs.declared.attr.MapAttr.{MapAttr}
use Rattle.bt_mapkind.specs.declared.attr.MapType.{MapType}
use Rattle.bt_mapkind.specs.declared.attr.MapType.TheVariants.{Array, Hash, LpmTrie, Queue, Stack, ArrayOfMaps, ProgArray, HashOfMaps}
use Rattle.bt_mapkind.specs.Contents.{fresh, fresh_of_type}
use Rattle.bt_mapkind.specs.Well.{IsWell, HasSizes, shape_of_type, shape_of}
use Rattle.bt_mapkind.proofs.Stays.{HasValueSize}

pub no_entry : {X : Type 0} (P : List ℕ → X → Type 0) (key : List ℕ) (x : X) → map.get (map.empty {X = X} {R = slice_cmp nat_cmp}) key ≡ Some x → P key x
no_entry {X} P key x e = none_is_none (sym (map.get-empty (slice_cmp nat_cmp) key) ∙ e)
  where
    none_is_none : None ≡ Some x → P key x
    none_is_none e = cc

none_fit : (X : Type 0) (n : ℕ) → map.len (map.empty {X = X} {R = slice_cmp nat_cmp}) ≤ n
none_fit X n = rw (map.len-empty (slice_cmp nat_cmp) X) (omega arith)

sizes : (a : MapAttr) (kind : MapType) → HasSizes a (fresh_of_type kind a.value_size a.max_entries)
sizes a Array = (length-replicate _ _, All-replicate (HasValueSize a) _ _ (length-replicate _ _))
sizes a Hash = (none_fit _ a.max_entries, no_entry _)
sizes a LpmTrie = (none_fit _ a.max_entries, no_entry _)
sizes a Queue = (omega arith, All-nil (HasValueSize a))
sizes a Stack = (omega arith, All-nil (HasValueSize a))
sizes a ArrayOfMaps = length-replicate _ _
sizes a ProgArray = length-replicate _ _
sizes a HashOfMaps = (none_fit _ a.max_entries, no_entry _)

shape : (kind : MapType) (size count : ℕ) → shape_of_type kind ≡ shape_of (fresh_of_type kind size count)
shape Array size count = refl
shape Hash size count = refl
shape LpmTrie size count = refl
shape Queue size count = refl
shape Stack size count = refl
shape ArrayOfMaps size count = refl
shape ProgArray size count = refl
shape HashOfMaps size count = refl

pub fresh_is_well : (a : MapAttr) → IsWell a (fresh a)
fresh_is_well a = record { shape = shape a.kind a.value_size a.max_entries; sizes = sizes a a.kind }
