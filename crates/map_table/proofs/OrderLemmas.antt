-- The first rows of an order: what a moved row number makes of them, and what a write to a row of a block does.
use Rattle.std.proofs.Common.{◌≡◌, ◌≢◌, ℕ, zero, suc, ◌+◌, ◌<◌, ◌≤◌, false, List, [], ◌∷◌, ◌++◌, length, get_or, set, take, drop, map, eqb, refl, sym, ap, ap₂, ◌∙◌, arith, ◌⊎◌, inl, inr}
use Rattle.std.specs.List.{insert, remove, All, IsDistinct}
use Rattle.std.specs.List.Sorted.{IsPermutation}
use Rattle.std.specs.Cmp.{nat_eq_equiv}
use Rattle.std.proofs.lemmas.Bool.{cases_lt}
use Rattle.std.proofs.lemmas.Bool.Decides.{nat_tests}
use Rattle.std.proofs.lemmas.List.{map-append, take-map, drop-map, take-append-le, take_all, length-take-le, get_or_default}
use Rattle.std.proofs.lemmas.List.Edits.{length-remove}
use Rattle.std.proofs.lemmas.List.Sorted.{IsPermutation-trans, IsPermutation-remove, IsPermutation-insert, All-permutation}
use Rattle.std.proofs.lemmas.Map.Keys.{apart_from_distinct, IsDistinct-IsPermutation}
use Rattle.map_table.specs.Table.{moved}

-- ---- a row number moved
permutation-moved : (order : List ℕ) (from to : ℕ) → from < length order → IsPermutation order (moved order from to)
permutation-moved order from to within =
    let x : ℕ = get_or order from 0 in
    IsPermutation-trans order _ _ (IsPermutation-remove order from x within (get_or_default order from 0 x within)) (IsPermutation-insert (remove order from) to x)

pub all-moved : (P : ℕ → Type 0) (order : List ℕ) (from to : ℕ) → from < length order → All P order → All P (moved order from to)
all-moved P order from to within all = All-permutation P _ _ (permutation-moved order from to within) all

pub distinct-moved : (order : List ℕ) (from to : ℕ) → from < length order → IsDistinct eqb order → IsDistinct eqb (moved order from to)
distinct-moved order from to within once = IsDistinct-IsPermutation eqb nat_eq_equiv.symm _ _ (permutation-moved order from to within) once

take-insert : (ys : List ℕ) (place n : ℕ) (x : ℕ) → place ≤ n → take (suc n) (insert ys place x) ≡ insert (take n ys) place x
take-insert ys zero n x le = refl
take-insert [] (suc place) zero x le = absurd (omega arith)
take-insert [] (suc place) (suc n) x le = refl
take-insert (y ∷ ys) (suc place) zero x le = absurd (omega arith)
take-insert (y ∷ ys) (suc place) (suc n) x le = ap (λ l. y ∷ l) (take-insert ys place n x (omega arith))

take-insert_end : (ys : List ℕ) (n : ℕ) (x : ℕ) → n ≤ length ys → take n (insert ys n x) ≡ take n ys
take-insert_end ys zero x le = refl
take-insert_end [] (suc n) x le = absurd (omega arith)
take-insert_end (y ∷ ys) (suc n) x le = ap (λ l. y ∷ l) (take-insert_end ys n x (omega arith))

take-remove : (ys : List ℕ) (place n : ℕ) → place ≤ n → take n (remove ys place) ≡ remove (take (suc n) ys) place
take-remove [] zero zero le = refl
take-remove [] zero (suc n) le = refl
take-remove [] (suc place) zero le = absurd (omega arith)
take-remove [] (suc place) (suc n) le = refl
take-remove (y ∷ ys) zero n le = refl
take-remove (y ∷ ys) (suc place) zero le = absurd (omega arith)
take-remove (y ∷ ys) (suc place) (suc n) le = ap (λ l. y ∷ l) (take-remove ys place n (omega arith))

-- the last of the first rows goes after them
pub take-moved_out : (order : List ℕ) (place n : ℕ) → place ≤ n → n < length order → take n (moved order place n) ≡ remove (take (suc n) order) place
take-moved_out order place n le within =
    let less : length (remove order place) + 1 ≡ length order = length-remove order place (omega arith) in
    take-insert_end (remove order place) n (get_or order place 0) (omega arith) ∙ take-remove order place n le

-- the row after the first ones comes among them
pub take-moved_in : (order : List ℕ) (place n : ℕ) → place ≤ n → n < length order → take (suc n) (moved order n place) ≡ insert (take n order) place (get_or order n 0)
take-moved_in order place n le within =
    take-insert (remove order n) place n (get_or order n 0) le
    ∙ ap (λ l. insert l place (get_or order n 0)) (take-append-le n (take n order) (drop (suc n) order) (omega (arith, length-take-le n order)) ∙ take_all n (take n order) (omega (arith, length-take-le n order)))

-- ---- rows that differ
pub apart : (order : List ℕ) (i j : ℕ) → IsDistinct eqb order → i < length order → j < length order → i ≢ j → get_or order i 0 ≢ get_or order j 0
apart order i j once in_i in_j other = cases (cases_lt i j)
  where
    differ : (i j : ℕ) → i < j → j < length order → get_or order i 0 ≢ get_or order j 0
    differ i j lt within same = let e : eqb (get_or order i 0) (get_or order j 0) ≡ false = apart_from_distinct eqb order i j 0 once lt within in grind (arith, nat_tests)

    cases : (i < j) ⊎ (j ≤ i) → get_or order i 0 ≢ get_or order j 0
    cases (inl lt) = differ i j lt in_j
    cases (inr le) = λ same. differ j i (omega arith) in_i (sym same)

-- ---- lists over the rows
pub map-insert : {X : Type 0} (f : ℕ → X) (xs : List ℕ) (i x : ℕ) → map f (insert xs i x) ≡ insert (map f xs) i (f x)
map-insert f xs i x = map-append f (take i xs) (x ∷ drop i xs) ∙ sym (ap₂ (λ l m. l ++ f x ∷ m) (take-map f i xs) (drop-map f i xs))

pub map-remove : {X : Type 0} (f : ℕ → X) (xs : List ℕ) (i : ℕ) → map f (remove xs i) ≡ remove (map f xs) i
map-remove f xs i = map-append f (take i xs) (drop (suc i) xs) ∙ sym (ap₂ (λ l m. l ++ m) (take-map f i xs) (drop-map f (suc i) xs))

-- two functions that agree at each row give the same list
pub map-agree : {X : Type 0} (f g : ℕ → X) (xs : List ℕ) → ((k : ℕ) → k < length xs → f (get_or xs k 0) ≡ g (get_or xs k 0)) → map f xs ≡ map g xs
map-agree f g [] same = refl
map-agree f g (x ∷ xs) same = ap₂ (λ y l. y ∷ l) (same 0 (omega arith)) (map-agree f g xs (λ k lt. same (suc k) (omega arith)))

-- but at one
pub map-agree_but : {X : Type 0} (f g : ℕ → X) (xs : List ℕ) (i : ℕ) → i < length xs → ((k : ℕ) → k < length xs → k ≢ i → f (get_or xs k 0) ≡ g (get_or xs k 0)) → map f xs ≡ set (map g xs) i (f (get_or xs i 0))
map-agree_but f g [] i lt same = absurd (omega arith)
map-agree_but f g (x ∷ xs) zero lt same = ap (λ l. f x ∷ l) (map-agree f g xs (λ k under. same (suc k) (omega arith) (omega arith)))
map-agree_but f g (x ∷ xs) (suc i) lt same = ap₂ (λ y l. y ∷ l) (same 0 (omega arith) (omega arith)) (map-agree_but f g xs i (omega arith) (λ k under other. same (suc k) (omega arith) (λ e. other (omega arith))))
