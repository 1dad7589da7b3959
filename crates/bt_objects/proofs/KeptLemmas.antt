-- The boxes that stay when others are dropped, and what they charge.
use Rattle.std.proofs.Common.{◌≡◌, ℕ, ◌+◌, ◌≤◌, Bool, true, not, List, [], ◌∷◌, map as each, Some, None, cond, refl, sym, ap, ◌∙◌, arith, add_comm}
use Rattle.std.specs.Map.{lookup}
use Rattle.std.specs.BTreeMap.{is_at}
use Rattle.std.specs.Ordering.{nat_cmp, is_eq}
use Rattle.std.specs.declared.cmp.Ordering.{Ordering}
use Rattle.std.specs.declared.cmp.Ordering.TheVariants.{Less, Equal, Greater}
use Rattle.std.specs.Cmp.{nat_cmp_total}
use Rattle.std.specs.List.{filter, AllByRecursion}
use Rattle.std.specs.List.Sorted.{IsStrictlySortedBy}
use Rattle.std.proofs.lemmas.List.Sums.{sum_by-cons}
use Rattle.std.proofs.lemmas.List.Filters.{sum_by-filter_both}
use Rattle.std.proofs.lemmas.Map.Entries.{lookup-filter-keys}
use Rattle.std.specs.FinMap as map
use Rattle.std.specs.FinMap.{nat_cmp-IsAntisymmetric}
use Rattle.bt_mapkind.specs.Seen.{Seen}
use Rattle.bt_objects.specs.Boxes.{seen_boxes, charged_of, listed_charges}
use Rattle.bt_objects.proofs.BoxLemmas.{get-seen_boxes, charged_of-insert, charged_of-none}

tied : (order : Ordering) → is_eq order ≡ true → order ≡ Equal
tied Less e = cc
tied Equal e = refl
tied Greater e = cc

-- ---- what is seen of the boxes that stay
pub seen_boxes-filter : (stays : ℕ → Bool) (es : List (ℕ × Seen)) → seen_boxes (filter (λ e. stays e.0) es) ≡ map.retain_keys (seen_boxes es) stays
seen_boxes-filter stays es =
    map.same_map nat_cmp_total nat_cmp-IsAntisymmetric _ _ (λ q.
    get-seen_boxes (filter (λ (e : ℕ × Seen). stays e.0) es) q
    ∙ lookup-filter-keys (is_at (nat_cmp q)) stays (stays q) (λ k same. ap stays (sym (nat_cmp-IsAntisymmetric q k (tied (nat_cmp q k) same)))) es
    ∙ ap (λ o. cond (stays q) o None) (sym (get-seen_boxes es q))
    ∙ sym (map.get-retain_keys (seen_boxes es) stays q (λ x same. ap stays (sym (nat_cmp-IsAntisymmetric q x same)))))

-- ---- charges
-- keys that all lie above a key: it is not among them
absent : {K : Type 0} (id : ℕ) (es : List (ℕ × K)) → AllByRecursion (λ k. nat_cmp id k ≡ Less) (each (λ e. e.0) es) → lookup (is_at (nat_cmp id)) es ≡ None
absent id [] below = refl
absent id (e ∷ es) below = ap (λ order. cond (is_eq order) (Some e.1) (lookup (is_at (nat_cmp id)) es)) below.0 ∙ absent id es below.1

pub charged_of-listed : (es : List (ℕ × Seen)) → IsStrictlySortedBy nat_cmp (each (λ e. e.0) es) → charged_of (seen_boxes es) ≡ listed_charges es
unfolding IsStrictlySortedBy
charged_of-listed [] sorted = charged_of-none [] refl
charged_of-listed (e ∷ es) sorted =
    charged_of-insert (seen_boxes es) e.0 e.1 (get-seen_boxes es e.0 ∙ absent e.0 es sorted.0)
    ∙ ap (λ n. n + e.1.charge) (charged_of-listed es sorted.1)
    ∙ sym (sum_by-cons (λ (b : ℕ × Seen). b.1.charge) e es ∙ add_comm e.1.charge (listed_charges es))

pub lighter : (stays : ℕ → Bool) (es : List (ℕ × Seen)) → listed_charges (filter (λ e. stays e.0) es) ≤ listed_charges es
lighter stays es =
    let h : listed_charges (filter (λ (e : ℕ × Seen). stays e.0) es) + listed_charges (filter (λ (e : ℕ × Seen). not (stays e.0)) es) ≡ listed_charges es
    = sum_by-filter_both (λ (e : ℕ × Seen). stays e.0) (λ (e : ℕ × Seen). not (stays e.0)) (λ x. refl) (λ (b : ℕ × Seen). b.1.charge) es in
    omega (arith, h)
