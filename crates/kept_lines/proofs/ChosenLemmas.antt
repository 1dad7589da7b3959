-- The serials in a range, the last one first.
use Rattle.std.proofs.Common.{◌≡◌, ℕ, Bool, true, false, cond, List, [], ◌∷◌, ◌++◌, refl, sym, ◌∙◌, ap}
use Rattle.std.specs.Prelude.{filter, map as each, reverse}
use Rattle.std.proofs.lemmas.List.{reverse-append}

module _ {A : Type 0} (p : ℕ → Bool) (f : A → ℕ) where
  abbrev pub within : List A → List ℕ
  within xs = filter p (each f (reverse xs))

  one_first : (x : ℕ) (xs : List ℕ) → filter p (x ∷ []) ++ filter p xs ≡ filter p (x ∷ xs)
  one_first x xs = elim (p x) as (λ b. cond b (x ∷ []) [] ++ filter p xs ≡ cond b (x ∷ filter p xs) (filter p xs)) [ true ↦ refl | false ↦ refl ]

  pub last_first : (xs : List A) (x : A) → within (xs ++ x ∷ []) ≡ filter p (f x ∷ []) ++ within xs
  last_first xs x = ap (λ ys. filter p (each f ys)) (reverse-append xs (x ∷ [])) ∙ sym (one_first (f x) (each f (reverse xs)))
