-- The sources of a target: what a step over one more link keeps.
use Rattle.std.proofs.Common.{◌≡◌, ◌≤◌, ◌<◌, ◌+◌, ℕ, Bool, true, false, get_or, length, cond, inl, inr, refl, sym, ap, subst, ◌∙◌, arith, Contains}
use Rattle.std.specs.Prelude.{◌↔◌, ◌⊎◌}
use Rattle.std.specs.Ordering.{is_eq}
use Rattle.std.proofs.lemmas.Bool.{cases_lt}
use Rattle.std.proofs.lemmas.List.Elements.{Contains-get_or}
use Rattle.std.proofs.lemmas.List.{get_or_default}
use Rattle.bt_roots.specs.declared.target.Target.{Target}
use Rattle.bt_roots.specs.TargetOrder.{target_cmp, tied_targets}
use Rattle.bt_roots.specs.Reachable.{Links, IsSource}
use Rattle.bt_roots.proofs.Growth.{equal}
use Rattle.bt_roots.proofs.Targets.{same_target}

-- among these is the target, no one but its sources, and each source in the first so many links
pub record AreSources (links : Links) (target : Target) (count : ℕ) (has : Target → Bool) : Type 0 where
  pub only : (x : Target) → has x ≡ true → IsSource links target x
  pub itself : has target ≡ true
  pub added : (k : ℕ) (d : Target × Target) → k < count → (get_or links k d).1 ≡ target → has (get_or links k d).0 ≡ true

-- more with one more
with_one : (more : Target → Bool) (has : Target → Bool) (x : Target) → ((q : Target) → more q ≡ cond (is_eq (target_cmp x q)) true (has q))
    → (q : Target) → more q ≡ true → (q ≡ x) ⊎ (has q ≡ true)
with_one more has x updates q is = by (is_eq (target_cmp x q)) refl (sym (updates q) ∙ is)
  where
    by : (b : Bool) → is_eq (target_cmp x q) ≡ b → cond b true (has q) ≡ true → (q ≡ x) ⊎ (has q ≡ true)
    by true same is = inl (sym (tied_targets x q (equal (target_cmp x q) same)))
    by false apart is = inr is

kept_with : (more : Target → Bool) (has : Target → Bool) (x : Target) → ((q : Target) → more q ≡ cond (is_eq (target_cmp x q)) true (has q))
    → (q : Target) → has q ≡ true → more q ≡ true
kept_with more has x updates q is = updates q ∙ by (is_eq (target_cmp x q))
  where
    by : (b : Bool) → cond b true (has q) ≡ true
    by true = refl
    by false = is

is_with : (more : Target → Bool) (has : Target → Bool) (x : Target) → ((q : Target) → more q ≡ cond (is_eq (target_cmp x q)) true (has q)) → more x ≡ true
is_with more has x updates = updates x ∙ ap (λ o. cond (is_eq o) true (has x)) (same_target x)

module _ (links : Links) (target : Target) (i : ℕ) (d : Target × Target) (has : Target → Bool) (within : i < length links) (before : AreSources links target i has) where
  -- a link that is the one of this number, whatever stands for one that is not there
  at : (k : ℕ) (e : Target × Target) → k < i + 1 → i ≤ k → get_or links i d ≡ get_or links k e
  at k e below more = let same : i ≡ k = omega arith in get_or_default links i d e within ∙ ap (λ n. get_or links n e) same

  pub step_over : ((get_or links i d).1 ≡ target → ⊥) → AreSources links target (i + 1) has
  step_over apart = record {
    only = before.only;
    itself = before.itself;
    added = λ k e below to. elim (cases_lt k i) [
      | inl less ↦ before.added k e less to
      | inr more ↦ absurd (apart (ap (λ (l : Target × Target). l.1) (at k e below more) ∙ to))
    ];
  }

  pub step_in : (more : Target → Bool) → (get_or links i d).1 ≡ target → ((q : Target) → more q ≡ cond (is_eq (target_cmp (get_or links i d).0 q)) true (has q)) → AreSources links target (i + 1) more
  step_in more to updates = record {
    only = λ x is. elim (with_one more has (get_or links i d).0 updates x is) [
      | inl same ↦ inr (subst (Contains links) (λ j. (sym same j, to j)) (Contains-get_or links i d within))
      | inr was ↦ before.only x was
    ];
    itself = kept_with more has (get_or links i d).0 updates target before.itself;
    added = λ k e below leads. elim (cases_lt k i) [
      | inl less ↦ kept_with more has (get_or links i d).0 updates (get_or links k e).0 (before.added k e less leads)
      | inr here ↦ ap (λ (l : Target × Target). more l.0) (sym (at k e below here)) ∙ is_with more has (get_or links i d).0 updates
    ];
  }

-- once all links were looked at
pub all_sources : (links : Links) (target : Target) (count : ℕ) (has : Target → Bool) → length links ≤ count → AreSources links target count has
    → (x : Target) → (has x ≡ true) ↔ IsSource links target x
all_sources links target count has all are x = (are.only x, back)
  where
    back : IsSource links target x → has x ≡ true
    back (inl same) = ap has same ∙ are.itself
    back (inr (k, lt, e)) = ap (λ (l : Target × Target). has l.0) (sym e) ∙ are.added k (x, target) (omega arith) (ap (λ (l : Target × Target). l.1) e)
