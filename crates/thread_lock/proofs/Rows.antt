-- The row of all views, where one view changes or one more comes.
use Rattle.std.proofs.Common.{◌≡◌, ◌≢◌, ◌⊎◌, ⊎_elim, inl, inr, ℕ, zero, suc, ◌<◌, ◌≤◌, ◌+◌, true, List, [], ◌∷◌, ◌++◌, set, length, refl, ap, sym, ◌∙◌, subst, arith, add-zero}
use Rattle.std.proofs.lemmas.List.Sums.{sum_by-cons, sum_by-append}
use mathlib.Core.Option.{some, some-injective, some-ne-none}
use lib.ListN.{get_elem?}
use Rattle.atomic_table.proofs.Lists.{at_set, set_here, at_snoc}
use Rattle.thread_lock.specs.declared.rule.View.{View}
use Rattle.thread_lock.specs.Rule.{is_numbered, is_number, calls_left, Apart, AllNumbers}

module _ {X : Type 0} where
  at_within : (l : List X) (i : ℕ) (x : X) → get_elem? l i ≡ some x → i < length l
  at_within [] i x e = absurd (some-ne-none x (sym e))
  at_within (y ∷ l) zero x e = omega arith
  at_within (y ∷ l) (suc i) x e = omega (arith, at_within l i x e)

  pub at_here : (l : List X) (i : ℕ) (x y : X) → get_elem? l i ≡ some x → get_elem? (set l i y) i ≡ some y
  at_here l i x y e = set_here l i y (at_within l i x e)

  pub set_swap : (l : List X) (i j : ℕ) (x y : X) → j ≢ i → set (set l i x) j y ≡ set (set l j y) i x
  set_swap [] i j x y ne = refl
  set_swap (z ∷ l) zero zero x y ne = absurd (ne refl)
  set_swap (z ∷ l) zero (suc j) x y ne = refl
  set_swap (z ∷ l) (suc i) zero x y ne = refl
  set_swap (z ∷ l) (suc i) (suc j) x y ne = ap (λ (m : List X). z ∷ m) (set_swap l i j x y (λ e. ne (ap suc e)))

  -- what is in a longer row was there before, or came last
  pub at_end : (l : List X) (a b : X) (j : ℕ) → get_elem? (l ++ a ∷ []) j ≡ some b → (get_elem? l j ≡ some b) ⊎ ((j ≡ length l) × (a ≡ b))
  at_end [] a b zero e = inr (refl, some-injective a b e)
  at_end [] a b (suc j) e = absurd (some-ne-none b (sym e))
  at_end (x ∷ xs) a b zero e = inl e
  at_end (x ∷ xs) a b (suc j) e = ⊎_elim (λ t. inl t) (λ (t : (j ≡ length xs) × (a ≡ b)). inr (ap suc t.0, t.1)) (at_end xs a b j e)

module _ {S E A : Type 0} where
  -- ---- which numbers there are
  pub number_at : (vs : List (View S E A)) (n : ℕ) (v : View S E A) → get_elem? vs n ≡ some v → is_number vs n ≡ is_numbered v.stage
  number_at [] n v e = absurd (some-ne-none v (sym e))
  number_at (u ∷ vs) zero v e = ap (λ (w : View S E A). is_numbered w.stage) (some-injective u v e)
  number_at (u ∷ vs) (suc n) v e = number_at vs n v e

  pub number_set : (vs : List (View S E A)) (id n : ℕ) (v w : View S E A) → get_elem? vs id ≡ some v → (is_numbered v.stage ≡ true → is_numbered w.stage ≡ true)
      → is_number vs n ≡ true → is_number (set vs id w) n ≡ true
  number_set [] id n v w e f h = absurd (some-ne-none v (sym e))
  number_set (u ∷ vs) zero zero v w e f h = f (sym (ap (λ (x : View S E A). is_numbered x.stage) (some-injective u v e)) ∙ h)
  number_set (u ∷ vs) zero (suc n) v w e f h = h
  number_set (u ∷ vs) (suc id) zero v w e f h = h
  number_set (u ∷ vs) (suc id) (suc n) v w e f h = number_set vs id n v w e f h

  pub number_more : (vs : List (View S E A)) (w : View S E A) (n : ℕ) → is_number vs n ≡ true → is_number (vs ++ w ∷ []) n ≡ true
  number_more [] w n h = absurd (cc)
  number_more (u ∷ vs) w zero h = h
  number_more (u ∷ vs) w (suc n) h = number_more vs w n h

  -- ---- the calls left
  calls_cons : (v : View S E A) (vs : List (View S E A)) → calls_left (v ∷ vs) ≡ v.left + calls_left vs
  calls_cons v vs = sum_by-cons (λ (w : View S E A). w.left) v vs

  pub calls_set : (vs : List (View S E A)) (id : ℕ) (v w : View S E A) → get_elem? vs id ≡ some v → calls_left (set vs id w) + v.left ≡ calls_left vs + w.left
  calls_set [] id v w e = absurd (some-ne-none v (sym e))
  calls_set (u ∷ vs) zero v w e =
      let h : u.left ≡ v.left = ap (λ (x : View S E A). x.left) (some-injective u v e) in rw (calls_cons w vs, calls_cons u vs) (omega arith)
  calls_set (u ∷ vs) (suc id) v w e = rw (calls_cons u (set vs id w), calls_cons u vs) (omega (arith, calls_set vs id v w e))

  pub calls_more : (vs : List (View S E A)) (w : View S E A) → calls_left (vs ++ w ∷ []) ≡ calls_left vs + w.left
  calls_more vs w = sum_by-append (λ (v : View S E A). v.left) vs (w ∷ []) ∙ ap (λ (n : ℕ). calls_left vs + n) (calls_cons w [] ∙ add-zero w.left)

  pub calls_of : (vs : List (View S E A)) (id : ℕ) (v : View S E A) → get_elem? vs id ≡ some v → v.left ≤ calls_left vs
  calls_of [] id v e = absurd (some-ne-none v (sym e))
  calls_of (u ∷ vs) zero v e = let h : u.left ≡ v.left = ap (λ (x : View S E A). x.left) (some-injective u v e) in rw (calls_cons u vs) (omega arith)
  calls_of (u ∷ vs) (suc id) v e = rw (calls_cons u vs) (omega (arith, calls_of vs id v e))

  -- ---- what all views have, each other than the other
  module _ (Has : View S E A → ℕ → Type 0) where
    pub apart_set : (vs : List (View S E A)) (id : ℕ) (w : View S E A) → ((j n : ℕ) (u : View S E A) → j ≢ id → get_elem? vs j ≡ some u → Has w n → Has u n → ⊥) → Apart Has vs → Apart Has (set vs id w)
    apart_set vs id w apart old i j n x y p q a b = ⊎_elim
        (λ (t : (i ≡ id) × (w ≡ x)). ⊎_elim
        (λ (u : (j ≡ id) × (w ≡ y)). t.0 ∙ sym u.0)
        (λ (u : (j ≢ id) × (get_elem? vs j ≡ some y)). absurd (apart j n y u.0 u.1 (subst (λ (z : View S E A). Has z n) (sym t.1) a) b)) (at_set vs id j w y q))
        (λ (t : (i ≢ id) × (get_elem? vs i ≡ some x)). ⊎_elim
        (λ (u : (j ≡ id) × (w ≡ y)). absurd (apart i n x t.0 t.1 (subst (λ (z : View S E A). Has z n) (sym u.1) b) a))
        (λ (u : (j ≢ id) × (get_elem? vs j ≡ some y)). old i j n x y t.1 u.1 a b) (at_set vs id j w y q)) (at_set vs id i w x p)

    pub apart_more : (vs : List (View S E A)) (w : View S E A) → ((j n : ℕ) (u : View S E A) → get_elem? vs j ≡ some u → Has w n → Has u n → ⊥) → Apart Has vs → Apart Has (vs ++ w ∷ [])
    apart_more vs w apart old i j n x y p q a b = ⊎_elim
        (λ (t : get_elem? vs i ≡ some x). ⊎_elim
        (λ (u : get_elem? vs j ≡ some y). old i j n x y t u a b)
        (λ (u : (j ≡ length vs) × (w ≡ y)). absurd (apart i n x t (subst (λ (z : View S E A). Has z n) (sym u.1) b) a)) (at_end vs w y j q))
        (λ (t : (i ≡ length vs) × (w ≡ x)). ⊎_elim
        (λ (u : get_elem? vs j ≡ some y). absurd (apart j n y u (subst (λ (z : View S E A). Has z n) (sym t.1) a) b))
        (λ (u : (j ≡ length vs) × (w ≡ y)). t.0 ∙ sym u.0) (at_end vs w y j q)) (at_end vs w x i p)

    pub numbers_set : (vs : List (View S E A)) (id : ℕ) (v w : View S E A) → get_elem? vs id ≡ some v → (is_numbered v.stage ≡ true → is_numbered w.stage ≡ true)
        → ((n : ℕ) → Has w n → is_number (set vs id w) n ≡ true) → AllNumbers Has vs → AllNumbers Has (set vs id w)
    numbers_set vs id v w at stays mine old j n x e h = ⊎_elim
        (λ (t : (j ≡ id) × (w ≡ x)). mine n (subst (λ (z : View S E A). Has z n) (sym t.1) h))
        (λ (t : (j ≢ id) × (get_elem? vs j ≡ some x)). number_set vs id n v w at stays (old j n x t.1 h)) (at_set vs id j w x e)

    pub numbers_more : (vs : List (View S E A)) (w : View S E A) → ((n : ℕ) → Has w n → is_number vs n ≡ true) → AllNumbers Has vs → AllNumbers Has (vs ++ w ∷ [])
    numbers_more vs w mine old j n x e h = number_more vs w n (⊎_elim
        (λ (t : get_elem? vs j ≡ some x). old j n x t h)
        (λ (t : w ≡ x). mine n (subst (λ (z : View S E A). Has z n) (sym t) h)) (at_snoc vs w x j e))
