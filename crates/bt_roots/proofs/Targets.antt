-- The links that lead from one of them among links in that order.
use Rattle.std.proofs.Common.{◌≡◌, ◌↔◌, ℕ, ◌+◌, ◌-◌, ◌<◌, ◌≤◌, true, false, length, get_or, take, drop, refl, sym, ap, ◌∙◌, inl, inr, arith, Contains}
use Rattle.std.proofs.lemmas.Bool.{cases_lt}
use Rattle.std.proofs.lemmas.List.{length-take-le, length-drop, get_or-take, get_or-drop}
use Rattle.std.specs.declared.cmp.Ordering.{Ordering}
use Rattle.std.specs.declared.cmp.Ordering.TheVariants.{Less, Equal, Greater}
use Rattle.std.specs.Ordering.{is_lt, is_le, ordering_reverse}
use Rattle.std.specs.Cmp.{tied_itself, alike_right}
use Rattle.std.specs.List.Sorted.{IsPartitionedBy}
use Rattle.std.proofs.lemmas.List.Sorted.{sorted_far, ranks_by}
use Rattle.bt_roots.specs.declared.target.Target.{Target}
use Rattle.bt_roots.specs.TargetOrder.{target_cmp, turns, chains, tied_targets, target_order}
use Rattle.bt_roots.specs.Reachable.{Links}
use Rattle.bt_roots.specs.Walk.{IsByFrom, SplitsBelow, SplitsUpto}

pub same_target : (x : Target) → target_cmp x x ≡ Equal
same_target = tied_itself target_order

-- what is not above y is where y is
below_too : (x y from : Target) → is_lt (target_cmp y x) ≡ false → is_lt (target_cmp y from) ≡ true → is_lt (target_cmp x from) ≡ true
below_too x y from up low = by (target_cmp x y) (target_cmp y from) refl refl
  where
    by : (r s : Ordering) → target_cmp x y ≡ r → target_cmp y from ≡ s → is_lt (target_cmp x from) ≡ true
    by Less Less p q = ap is_lt (chains x y from p q)
    by Less Equal p q = cc
    by Less Greater p q = cc
    by Equal s p q = ap is_lt (target_order.congr x y from p) ∙ low
    by Greater s p q = cc (turns y x, ap ordering_reverse p)

upto_too : (x y from : Target) → is_lt (target_cmp y x) ≡ false → is_le (target_cmp y from) ≡ true → is_le (target_cmp x from) ≡ true
upto_too x y from up low = by (target_cmp x y) (target_cmp y from) refl refl
  where
    by : (r s : Ordering) → target_cmp x y ≡ r → target_cmp y from ≡ s → is_le (target_cmp x from) ≡ true
    by Less Less p q = ap is_le (chains x y from p q)
    by Less Equal p q = ap is_le (sym (alike_right target_order y from x q) ∙ p)
    by Less Greater p q = cc
    by Equal s p q = ap is_le (target_order.congr x y from p) ∙ low
    by Greater s p q = cc (turns y x, ap ordering_reverse p)

rises : (links : Links) → IsByFrom links → (i j : ℕ) (d : Target × Target) → i ≤ j → j < length links → is_lt (target_cmp (get_or links j d).0 (get_or links i d).0) ≡ false
rises links up = sorted_far (λ x y. is_lt (target_cmp x.0 y.0)) (ranks_by target_order (λ (link : Target × Target). link.0)) links up

-- the two tests of the search split sorted links
pub split_below : (links : Links) (from : Target) → IsByFrom links → IsPartitionedBy (λ link. is_lt (target_cmp link.0 from)) links
split_below links from up i j d le lt low = below_too (get_or links i d).0 (get_or links j d).0 from (rises links up i j d le lt) low

pub split_upto : (links : Links) (from : Target) → IsByFrom links → IsPartitionedBy (λ link. is_le (target_cmp link.0 from)) links
split_upto links from up i j d le lt low = upto_too (get_or links i d).0 (get_or links j d).0 from (rises links up i j d le lt) low

both_ways : (r : Ordering) → is_lt r ≡ true → is_le r ≡ false → ⊥
both_ways Less p q = cc
both_ways Equal p q = cc
both_ways Greater p q = cc

level : (r : Ordering) → is_lt r ≡ false → is_le r ≡ true → r ≡ Equal
level Less p q = cc
level Equal p q = refl
level Greater p q = cc

pub start_before_end : (links : Links) (from : Target) (i j : ℕ) → i ≤ length links → SplitsBelow links from i → SplitsUpto links from j → i ≤ j
start_before_end links from i j within first last =
    let d : Target × Target = (from, from) in
    elim (cases_lt j i) [
      | inl less ↦ absurd (both_ways (target_cmp (get_or links j d).0 from) (first.0 j d (omega arith) less) (last.1 j d (omega arith) (omega arith)))
      | inr more ↦ more
    ]

-- between the two lie just the links from the object
pub between : (links : Links) (from : Target) (i j : ℕ) → i ≤ length links → j ≤ length links → SplitsBelow links from i → SplitsUpto links from j
    → (to : Target × Target) → Contains (take (j - i) (drop i links)) to ↔ (Contains links to × (to.0 ≡ from))
between links from i j in_i in_j first last to = (inside, outside)
  where
    long : length (take (j - i) (drop i links)) ≡ j - i
    long = let room : j - i ≤ length (drop i links) = omega (arith, length-drop i links) in length-take-le (j - i) (drop i links) room

    inside : Contains (take (j - i) (drop i links)) to → Contains links to × (to.0 ≡ from)
    inside (k, lt, e) =
        let within : k < j - i = omega (arith, long) in
        let there : get_or links (i + k) to ≡ to = sym (get_or-take (j - i) (drop i links) k to within ∙ get_or-drop i links k to) ∙ e in
        let low = first.1 (i + k) to (omega arith) (omega arith) in
        let high = last.0 (i + k) to (omega arith) (omega arith) in
        let ties = level (target_cmp (get_or links (i + k) to).0 from) low high in
        ((i + k, omega arith, there), ap (λ link. link.0) (sym there) ∙ tied_targets _ _ ties)

    outside : Contains links to × (to.0 ≡ from) → Contains (take (j - i) (drop i links)) to
    outside ((k, lt, e), s) =
        let ties : target_cmp (get_or links k to).0 from ≡ Equal = ap (λ link. target_cmp link.0 from) e ∙ ap (λ t. target_cmp t from) s ∙ same_target from in
        let after : i ≤ k = elim (cases_lt k i) [ inl less ↦ absurd (not_less (target_cmp (get_or links k to).0 from) ties (first.0 k to (omega arith) less)) | inr more ↦ more ] in
        let before : k < j = elim (cases_lt k j) [ inl less ↦ less | inr more ↦ absurd (not_more (target_cmp (get_or links k to).0 from) ties (last.1 k to more lt)) ] in
        let within : k - i < j - i = omega arith in
        let back : i + (k - i) ≡ k = omega arith in
        (k - i, omega (arith, long), get_or-take (j - i) (drop i links) (k - i) to within ∙ get_or-drop i links (k - i) to ∙ ap (λ m. get_or links m to) back ∙ e)
      where
        not_less : (r : Ordering) → r ≡ Equal → is_lt r ≡ true → ⊥
        not_less r e t = cc (ap is_lt e)

        not_more : (r : Ordering) → r ≡ Equal → is_le r ≡ false → ⊥
        not_more r e t = cc (ap is_le e)
