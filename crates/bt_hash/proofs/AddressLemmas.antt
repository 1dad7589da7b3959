-- What the index of a map of entries is told, and that it has the addresses of the table after each change.
use Rattle.std.proofs.Common.{◌≡◌, ℕ, ◌<◌, Bool, true, false, if◌then◌else◌, ◌||◌, List, Option, Some, None, is_some, MatchOption, length, nat_lt, sym, ap, subst, ◌∙◌, arith}
use Rattle.std.specs.FinMap as map
use Rattle.std.proofs.Math.Logic.{∥∥₁_map}
use Rattle.std.proofs.lemmas.Bool.Decides.{nat_tests}
use Rattle.bt_mapkind.specs.declared.attr.MapAttr.{MapAttr}
use Rattle.bt_mapkind.specs.declared.attr.MapType.{MapType}
use Rattle.bt_mapkind.specs.declared.errno.Errno.{Errno}
use Rattle.bt_mapkind.specs.declared.errno.Errno.TheVariants.{E2BIG, ENOSPC}
use Rattle.bt_mapkind.specs.declared.exchange.Back.TheVariants.{Key}
use Rattle.bt_mapkind.specs.Attributes.{is_lpm}
use Rattle.bt_mapkind.specs.Contents.{ByKey}
use Rattle.bt_mapkind.specs.Exchange.{entries_fit, has_room, is_address}
use Rattle.bt_mapkind.specs.Sizes.{key_fits}
use Rattle.bt_mapkind.specs.Step.{full_errno}
use Rattle.bt_mapkind.proofs.Stays.{both_true}
use Rattle.map_table.specs.Table.{Kept}
use Rattle.bt_hash.specs.Held.{IsHeld, IsAdded, IsRemoved}
use Rattle.map_table.proofs.MapLemmas.{remove_gap}
use Rattle.map_table.proofs.TableLemmas.{with_entries}
use Rattle.map_table.proofs.KeptLemmas.{none_there}

pub full_of : (kind : MapType) (a : MapAttr) (errno : Errno) → a.kind ≡ kind → errno ≡ (if is_lpm kind then ENOSPC else E2BIG) → errno ≡ full_errno a
full_of kind a errno type is = is ∙ ap (λ k. if is_lpm k then ENOSPC else E2BIG) (sym type)

-- ---- what a value put under an address asks for
pub record FitsPut (a : MapAttr) (m : ByKey (List ℕ)) (stored : List ℕ) : Type 0 where
  pub key_size : length stored ≡ a.key_size
  pub stands : is_address a stored ≡ true
  pub room : has_room a m stored ≡ true

sized : (a : MapAttr) (key : List ℕ) → key_fits a key ≡ true → length key ≡ a.key_size
sized a key fits = grind (arith, nat_tests)

fits_put : (a : MapAttr) (m : ByKey (List ℕ)) (stored value : List ℕ) → entries_fit a m (Key stored (Some value)) ≡ true → FitsPut a m stored
fits_put a m stored value e =
    let h = both_true _ _ e in
    let parts = both_true _ _ h.0 in
    record { key_size = sized a stored (both_true _ _ parts.0).0; stands = parts.1; room = h.1 }

room_left : (there : Bool) (n most : ℕ) → there ≡ false → there || nat_lt n most ≡ true → n < most
room_left false n most none room = grind (arith, nat_tests)
room_left true n most none room = cc

pub room_for_new : {kind : MapType} (a : MapAttr) (old : Kept) (stored value : List ℕ) → IsHeld kind a old → entries_fit a old.entries (Key stored (Some value)) ≡ true → map.get old.entries stored ≡ None → map.len old.entries < old.capacity
room_for_new a old stored value h fits absent = subst (λ n. map.len old.entries < n) (sym h.capacity) (room_left (map.contains_key old.entries stored) _ _ (ap is_some absent) (fits_put a old.entries stored value fits).room)

-- ---- the index after a change
module _ {X : Type 0} (indexes : X → Kept → Type 0) (index : X) (old new : Kept) (stored : List ℕ) (right : ∥ indexes index old ∥₁) where
  -- it is told of a new address
  pub added : {kind : MapType} (a : MapAttr) (value : List ℕ) → IsHeld kind a old → entries_fit a old.entries (Key stored (Some value)) ≡ true → false ≡ map.contains_key old.entries stored → new ≡ with_entries old (map.insert old.entries stored value)
      → IsAdded (λ before. ∥ indexes index before ∥₁) kind a new stored
  added a value h fits missing is =
      let f = fits_put a old.entries stored value fits in
      let absent : map.get old.entries stored ≡ None = sym (none_there old.entries stored missing) in
      record {
        old = old;
        indexed = right;
        held = h;
        value = value;
        absent = absent;
        room = room_for_new a old stored value h fits absent;
        key_size = f.key_size;
        stands = f.stands;
        is = is;
      }

  -- it is told of one that is gone
  pub removed : true ≡ map.contains_key old.entries stored → new ≡ with_entries old (map.remove old.entries stored) → IsRemoved (λ before. ∥ indexes index before ∥₁) new stored
  removed there is = record { old = old; indexed = right; there = sym there; is = is }

  -- an address that was not there is taken away
  pub without : false ≡ map.contains_key old.entries stored → new ≡ with_entries old (map.remove old.entries stored) → ∥ indexes index new ∥₁
  without missing is = subst (λ t. ∥ indexes index t ∥₁) (sym (is ∙ ap (with_entries old) (remove_gap old.entries stored (sym (none_there old.entries stored missing))))) right

  -- another value under an address, which the index need not be told
  module _ (stays : (i : X) (t : Kept) (at value : List ℕ) → map.contains_key t.entries at ≡ true → indexes i t → indexes i (with_entries t (map.insert t.entries at value))) where
    pub put_over : (value : List ℕ) → true ≡ map.contains_key old.entries stored → new ≡ with_entries old (map.insert old.entries stored value) → ∥ indexes index new ∥₁
    put_over value there is = subst (λ t. ∥ indexes index t ∥₁) (sym is) (∥∥₁_map right (stays index old stored value (sym there)))

    pub written : (f : List ℕ → List ℕ) (before : Option (List ℕ)) → before ≡ map.get old.entries stored → MatchOption before (new ≡ old) (λ v. new ≡ with_entries old (map.insert old.entries stored (f v))) → ∥ indexes index new ∥₁
    written f None there is = subst (λ t. ∥ indexes index t ∥₁) (sym is) right
    written f (Some v) there is = put_over (f v) (ap is_some there) is
