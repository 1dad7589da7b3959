-- What adding one object to what was reached leaves.
use Rattle.std.proofs.Common.{◌≡◌, ◌⊎◌, ℕ, zero, suc, ◌+◌, ◌≤◌, Bool, true, false, not, cond, List, [], ◌∷◌, ◌++◌, length, refl, sym, ap, subst, ◌∙◌, inl, inr, arith, Contains}
use Rattle.std.specs.List.{count_by}
use Rattle.std.proofs.lemmas.List.Elements.{Contains-append_left, Contains-push, Contains-push_cases}
use Rattle.std.proofs.Common.{length-append}
use Rattle.std.proofs.lemmas.List.Sums.{sum_by-cons}
use Rattle.std.specs.declared.cmp.Ordering.{Ordering}
use Rattle.std.specs.declared.cmp.Ordering.TheVariants.{Less, Equal, Greater}
use Rattle.std.specs.Ordering.{is_eq}
use Rattle.bt_roots.specs.declared.target.Target.{Target}
use Rattle.bt_roots.specs.declared.reach.Reached.{Reached}
use Rattle.bt_roots.specs.Walk.{has, left, Grows}
use Rattle.bt_roots.proofs.Targets.{same_target}
use Rattle.bt_roots.specs.TargetOrder.{target_cmp, tied_targets}

module _ {X : Type 0} (f g : X → Bool) (fewer : (x : X) → g x ≡ true → f x ≡ true) where
  one_or_less : (x : X) (a b : ℕ) → a ≤ b → cond (g x) 1 0 + a ≤ cond (f x) 1 0 + b
  one_or_less x a b le = by (f x) (g x) (fewer x)
    where
      by : (s t : Bool) → (t ≡ true → s ≡ true) → cond t 1 0 + a ≤ cond s 1 0 + b
      by true true h = omega arith
      by true false h = omega arith
      by false true h = cc (h refl)
      by false false h = omega arith

  cons_f : (x : X) (xs : List X) → count_by f (x ∷ xs) ≡ cond (f x) 1 0 + count_by f xs
  cons_f = sum_by-cons (λ x. cond (f x) 1 0)

  cons_g : (x : X) (xs : List X) → count_by g (x ∷ xs) ≡ cond (g x) 1 0 + count_by g xs
  cons_g = sum_by-cons (λ x. cond (g x) 1 0)

  -- a test that passes on fewer counts no more
  pub count_by-fewer : (xs : List X) → count_by g xs ≤ count_by f xs
  count_by-fewer [] = omega arith
  count_by-fewer (x ∷ xs) = omega (arith, cons_f x xs, cons_g x xs, one_or_less x (count_by g xs) (count_by f xs) (count_by-fewer xs))

  -- and less if it fails on one that is there
  pub count_by-less : (y : X) → f y ≡ true → g y ≡ false → (xs : List X) → Contains xs y → count_by g xs + 1 ≤ count_by f xs
  count_by-less y passes fails [] (k, lt, e) = absurd (omega arith)
  count_by-less y passes fails (x ∷ xs) (zero, lt, e) =
      let fx : f x ≡ true = ap f e ∙ passes in
      let gx : g x ≡ false = ap g e ∙ fails in
      let one : ◌≡◌ {A = ℕ} (cond (f x) 1 0) 1 = ap (λ b. cond b 1 0) fx in
      let none : ◌≡◌ {A = ℕ} (cond (g x) 1 0) 0 = ap (λ b. cond b 1 0) gx in
      omega (arith, cons_f x xs, cons_g x xs, one, none, count_by-fewer xs)
  count_by-less y passes fails (x ∷ xs) (suc k, lt, e) =
      omega (arith, cons_f x xs, cons_g x xs, one_or_less x (count_by g xs + 1) (count_by f xs) (count_by-less y passes fails xs (k, omega arith, e)))

pub equal : (o : Ordering) → is_eq o ≡ true → o ≡ Equal
equal Less e = cc
equal Equal e = refl
equal Greater e = cc

false_unless : (b : Bool) → not b ≡ true → b ≡ false
false_unless true e = cc
false_unless false e = refl

-- the object was not reached before, and is now to be walked from
pub grows_by_one : (old new : Reached) (target : Target)
    → ((q : Target) → has new q ≡ cond (is_eq (target_cmp target q)) true (has old q))
    → has old target ≡ false → new.todo.items ≡ old.todo.items ++ target ∷ []
    → Grows old new (λ x. x ≡ target)
grows_by_one old new target seen fresh todo = record {
  kept = kept;
  only = λ x h. by x h (is_eq (target_cmp target x)) refl (x ≡ target) (λ e. e);
  todo_kept = λ x h. subst (λ l. Contains l x) (sym todo) (Contains-append_left old.todo.items (target ∷ []) x h);
  todo_new = λ x h. by x h (is_eq (target_cmp target x)) refl (Contains new.todo.items x)
      (λ e. subst (λ t. Contains new.todo.items t) (sym e) (subst (λ l. Contains l target) (sym todo) (Contains-push old.todo.items target)));
  todo_only = λ x h. elim (Contains-push_cases old.todo.items target x (subst (λ l. Contains l x) todo h)) [
    | inl there ↦ inl there
    | inr same ↦ inr (subst (λ t. has new t ≡ true) same now)
  ];
  less = less;
}
  where
    kept : (x : Target) → has old x ≡ true → has new x ≡ true
    kept x h = seen x ∙ ap (cond (is_eq (target_cmp target x)) true) h ∙ always (is_eq (target_cmp target x))
      where
        always : (b : Bool) → cond b true true ≡ true
        always true = refl
        always false = refl

    now : has new target ≡ true
    now = seen target ∙ ap (λ o. cond (is_eq o) true (has old target)) (same_target target)

    by : (x : Target) → has new x ≡ true → (b : Bool) → is_eq (target_cmp target x) ≡ b → (P : Type 0) → (x ≡ target → P) → (has old x ≡ true) ⊎ P
    by x h true e P here = inr (here (sym (tied_targets target x (equal (target_cmp target x) e))))
    by x h false e P here = inl (ap (λ b. cond b true (has old x)) (sym e) ∙ sym (seen x) ∙ h)

    less : (targets : List Target) → ((x : Target) → x ≡ target → Contains targets x) → left targets new ≤ left targets old
    less targets holds =
        let fewer : (x : Target) → not (has new x) ≡ true → not (has old x) ≡ true = λ x e. unseen (has old x) (has new x) (kept x) e in
        let counted = count_by-less (λ x. not (has old x)) (λ x. not (has new x)) fewer target (ap not fresh) (ap not now) targets (holds target refl) in
        omega (arith, counted, ap length todo, length-append old.todo.items (target ∷ []))
      where
        unseen : (a b : Bool) → (a ≡ true → b ≡ true) → not b ≡ true → not a ≡ true
        unseen true b h e = cc (h refl)
        unseen false b h e = refl

-- `insert` answers whether the object is new
pub was_fresh : (was added : Bool) → added ≡ not was → added ≡ true → was ≡ false
was_fresh true added e h = cc
was_fresh false added e h = refl
