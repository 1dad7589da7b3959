-- What comes after so many items of a list.
use Rattle.std.proofs.Common.{◌≡◌, ℕ, zero, suc, ◌+◌, ◌-◌, ◌≤◌, List, [], ◌∷◌, drop, slice_get, refl, sym, ◌∙◌, ap, arith}
use Rattle.std.proofs.lemmas.List.{drop-drop}

nothing_of_none : {A : Type 0} (n : ℕ) → (let none : List A = [] in drop n none ≡ none)
nothing_of_none zero = refl
nothing_of_none (suc n) = refl

-- if nothing comes after fewer, nothing comes after more
pub none_behind : {A : Type 0} (n more : ℕ) (xs rest : List A) → rest ≡ drop n xs → rest ≡ [] → n ≤ more → rest ≡ drop more xs
none_behind n more xs rest is none within =
    let sum : n + (more - n) ≡ more = omega arith in
    none ∙ sym (nothing_of_none (more - n)) ∙ ap (λ ys. drop (more - n) ys) (sym none ∙ is) ∙ drop-drop (more - n) n xs ∙ ap (λ m. drop m xs) sum

-- the first one after so many is the one of that number
pub first_behind : {A : Type 0} (n : ℕ) (xs : List A) → slice_get xs n ≡ slice_get (drop n xs) 0
first_behind zero xs = refl
first_behind (suc n) [] = refl
first_behind (suc n) (x ∷ xs) = first_behind n xs

-- after one more
pub one_more_behind : {A : Type 0} (n : ℕ) (xs rest after : List A) (x : A) → rest ≡ drop n xs → rest ≡ x ∷ after → after ≡ drop (n + 1) xs
one_more_behind n xs rest after x is first = ap (λ ys. drop 1 ys) (sym first ∙ is) ∙ drop-drop 1 n xs
