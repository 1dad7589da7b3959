-- The pins in the order of their paths.
use Rattle.std.proofs.Common.{◌≡◌, ℕ, Bool, true, false, ◌&&◌, List, [], ◌∷◌, None, Some, cond, T, refl, sym, ap, subst, ◌∙◌}
use Rattle.std.specs.declared.cmp.Ordering.{Ordering}
use Rattle.std.specs.declared.cmp.Ordering.TheVariants.{Less, Equal, Greater}
use Rattle.std.specs.Ordering.{is_eq, is_lt, eq_by_cmp}
use Rattle.std.specs.List.{AllByRecursion}
use Rattle.std.specs.List.Sorted.{IsStrictlySortedBy}
use Rattle.std.specs.Map.{keys_of}
use Rattle.std.specs.Cmp.Lexicographic.{nat_list_cmp_total}
use Rattle.std.specs.FinMap as finite
use Rattle.std.specs.FinMap.{nat_cmp-IsAntisymmetric, slice_cmp-IsAntisymmetric}
use Rattle.std.specs.FinMap.Entries.{find, is_sorted, below_all}
use Rattle.bt_roots.specs.View.{path_cmp}
use Rattle.bt_roots.specs.Slots.{Slots, pins_of}
use Rattle.bt_roots.specs.PinsLeft.{pinned_in}
use Rattle.bt_roots.proofs.SlotLemmas.{held, entry_at, get-pins_of}

abbrev Above : List ℕ → Slots → Type 0
Above path slots = AllByRecursion (λ other. path_cmp path other ≡ Less) (keys_of slots)

both : (a b : Bool) → T a → T b → T (a && b)
both true b p q = q
both false b p q = absurd p

below_pins : (path : List ℕ) (slots : Slots) → Above path slots → T (below_all path_cmp path (pinned_in slots))
below_pins path [] above = tt
below_pins path ((key, None) ∷ slots) above = below_pins path slots above.1
below_pins path ((key, Some target) ∷ slots) above = both _ _ (subst (λ o. T (is_lt o)) (sym above.0) tt) (below_pins path slots above.1)

-- the pins' paths ascend as the entries' do
pins_sorted : (slots : Slots) → IsStrictlySortedBy path_cmp (keys_of slots) → T (is_sorted path_cmp (pinned_in slots))
unfolding IsStrictlySortedBy
pins_sorted [] up = tt
pins_sorted ((key, None) ∷ slots) up = pins_sorted slots up.1
pins_sorted ((key, Some target) ∷ slots) up = both _ _ (below_pins key slots up.0) (pins_sorted slots up.1)

-- below all entries there is none
none_above : (q path : List ℕ) (slots : Slots) → path_cmp q path ≡ Equal → Above path slots → entry_at slots q ≡ None
none_above q path [] tie above = refl
none_above q path (slot ∷ slots) tie above =
    ap (λ o. cond (is_eq o) (Some slot.1) (entry_at slots q)) (nat_list_cmp_total.congr q path slot.0 tie ∙ above.0) ∙ none_above q path slots tie above.1

tie_of : (o : Ordering) → is_eq o ≡ true → o ≡ Equal
tie_of Less e = cc
tie_of Equal e = refl
tie_of Greater e = cc

find_pin : (q : List ℕ) (slots : Slots) → IsStrictlySortedBy path_cmp (keys_of slots) → find path_cmp q (pinned_in slots) ≡ held (entry_at slots q)
unfolding IsStrictlySortedBy
find_pin q [] up = refl
find_pin q ((key, Some target) ∷ slots) up = here (eq_by_cmp path_cmp q key) (find_pin q slots up.1)
  where
    here : (b : Bool) → find path_cmp q (pinned_in slots) ≡ held (entry_at slots q)
        → cond b (Some target) (find path_cmp q (pinned_in slots)) ≡ held (cond b (Some (Some target)) (entry_at slots q))
    here true e = refl
    here false e = e
find_pin q ((key, None) ∷ slots) up = skip (eq_by_cmp path_cmp q key) refl (find_pin q slots up.1)
  where
    skip : (b : Bool) → eq_by_cmp path_cmp q key ≡ b → find path_cmp q (pinned_in slots) ≡ held (entry_at slots q)
        → find path_cmp q (pinned_in slots) ≡ held (cond b (Some None) (entry_at slots q))
    skip true t e = e ∙ ap held (none_above q key slots (tie_of (path_cmp q key) t) up.0)
    skip false t e = e

-- the entries with something pinned are the entries of the pins
pub entries-pins_of : (slots : Slots) → IsStrictlySortedBy path_cmp (keys_of slots) → pinned_in slots ≡ finite.entries (pins_of slots)
entries-pins_of slots up =
    let up_pins = pins_sorted slots up in
    let same = finite.same_map nat_list_cmp_total (slice_cmp-IsAntisymmetric nat_cmp-IsAntisymmetric) (finite.from_sorted (pinned_in slots)) (pins_of slots)
    (λ q. finite.get-from_sorted path_cmp (pinned_in slots) q up_pins ∙ find_pin q slots up ∙ sym (get-pins_of slots q)) in
    sym (finite.entries-from_sorted path_cmp (pinned_in slots) up_pins) ∙ ap finite.entries same
