-- Lists of ascending ids, and such a list without some of its ids.
use Rattle.std.proofs.Common.{◌≡◌, inl, inr, ℕ, zero, suc, ◌+◌, ◌≤◌, ◌<◌, ◌==◌, ◌&&◌, ◌||◌, Bool, true, false, not, cond, List, [], ◌∷◌, ◌++◌, length, get_or, filter, take, drop, Result, Ok, Err, refl, sym, ◌∙◌, ap, arith, slice_index}
use Rattle.std.specs.Result.{MatchResult}
use Rattle.std.specs.List.{list_any}
use Rattle.std.proofs.lemmas.List.{take_more}
use Rattle.std.proofs.lemmas.List.Folds.{list_any-append}
use Rattle.std.proofs.lemmas.Bool.{cases_lt}
use Rattle.std.proofs.lemmas.Bool.Decides.{nat_tests}
use Rattle.bt_objects.specs.Ids.{Ascends}
use Rattle.journal_model.specs.Well.{Each}
use Rattle.journal_model.proofs.Lists.{Each-filter}
use Rattle.journal_record.specs.Listed.{Rises}

Each-at : (P : ℕ → Type 0) (xs : List ℕ) (i : ℕ) → Each P xs → i < length xs → P (slice_index xs i)
Each-at P [] i h l = absurd (omega (arith, l))
Each-at P (x ∷ xs) zero h l = h.0
Each-at P (x ∷ xs) (suc i) h l = Each-at P xs i h.1 (omega (arith, l))

pub ascends : (xs : List ℕ) → Rises xs → Ascends xs
ascends [] h i j l m = absurd (omega (arith, m))
ascends (x ∷ xs) h zero zero l m = omega arith
ascends (x ∷ xs) h zero (suc j) l m = Each-at (λ y. x ≤ y) xs j h.0 (omega (arith, m))
ascends (x ∷ xs) h (suc i) zero l m = absurd (omega (arith, l))
ascends (x ∷ xs) h (suc i) (suc j) l m = ascends xs h.1 i j (omega (arith, l)) (omega (arith, m))

pub Rises-some : (p : ℕ → Bool) (xs : List ℕ) → Rises xs → Rises (filter p xs)
Rises-some p [] h = tt
Rises-some p (x ∷ xs) h = here (p x) (Each-filter (λ y. x ≤ y) p xs h.0) (Rises-some p xs h.1)
  where
    here : (b : Bool) → Each (λ y. x ≤ y) (filter p xs) → Rises (filter p xs) → Rises (cond b (x ∷ filter p xs) (filter p xs))
    here true a r = (a, r)
    here false a r = r

-- ---- one place less
Each-less : (P : ℕ → Type 0) (i : ℕ) (xs : List ℕ) → Each P xs → Each P (take i xs ++ drop (suc i) xs)
Each-less P zero [] h = tt
Each-less P zero (x ∷ xs) h = h.1
Each-less P (suc i) [] h = tt
Each-less P (suc i) (x ∷ xs) h = (h.0, Each-less P i xs h.1)

pub Rises-less : (i : ℕ) (xs : List ℕ) → Rises xs → Rises (take i xs ++ drop (suc i) xs)
Rises-less zero [] h = tt
Rises-less zero (x ∷ xs) h = h.1
Rises-less (suc i) [] h = tt
Rises-less (suc i) (x ∷ xs) h = (Each-less (λ y. x ≤ y) i xs h.0, Rises-less i xs h.1)

-- what is taken away there fails the test
pub filter-less : (p : ℕ → Bool) (i : ℕ) (xs : List ℕ) → i < length xs → p (get_or xs i 0) ≡ false → filter p (take i xs ++ drop (suc i) xs) ≡ filter p xs
filter-less p zero [] l e = absurd (omega (arith, l))
filter-less p zero (x ∷ xs) l e = sym (ap (λ b. cond b (x ∷ filter p xs) (filter p xs)) e)
filter-less p (suc i) [] l e = absurd (omega (arith, l))
filter-less p (suc i) (x ∷ xs) l e = ap (λ ys. cond (p x) (x ∷ ys) ys) (filter-less p i xs (omega (arith, l)) e)

-- ---- filters
pub filter-same : (p q : ℕ → Bool) → ((x : ℕ) → p x ≡ q x) → (xs : List ℕ) → filter p xs ≡ filter q xs
filter-same p q same [] = refl
filter-same p q same (x ∷ xs) = ap (λ b. cond b (x ∷ filter p xs) (filter p xs)) (same x) ∙ ap (λ ys. cond (q x) (x ∷ ys) ys) (filter-same p q same xs)

pub filter-twice : (p q : ℕ → Bool) (xs : List ℕ) → filter q (filter p xs) ≡ filter (λ x. p x && q x) xs
filter-twice p q [] = refl
filter-twice p q (x ∷ xs) = by (p x) (filter-twice p q xs)
  where
    by : (b : Bool) → filter q (filter p xs) ≡ filter (λ x. p x && q x) xs → filter q (cond b (x ∷ filter p xs) (filter p xs)) ≡ cond (b && q x) (x ∷ filter (λ x. p x && q x) xs) (filter (λ x. p x && q x) xs)
    by true rest = ap (λ ys. cond (q x) (x ∷ ys) ys) rest
    by false rest = rest

pub filter-all : (p : ℕ → Bool) (xs : List ℕ) → ((i : ℕ) → i < length xs → p (get_or xs i 0) ≡ true) → filter p xs ≡ xs
filter-all p [] h = refl
filter-all p (x ∷ xs) h = ap (λ b. cond b (x ∷ filter p xs) (filter p xs)) (h 0 (omega arith)) ∙ ap (λ ys. x ∷ ys) (filter-all p xs (λ i l. h (suc i) (omega (arith, l))))

-- ---- a search
-- where a search finds an id it stands there, and if not, nowhere
abbrev pub Searched : List ℕ → ℕ → Result ℕ ℕ → Type 0
Searched ids id r = MatchResult r (λ i. (i < length ids) × (get_or ids i 0 ≡ id)) (λ i. (i ≤ length ids) × ((k : ℕ) → k < i → get_or ids k 0 < id) × ((k : ℕ) → i ≤ k → k < length ids → id < get_or ids k 0))

pub found_there : (ids : List ℕ) (id i : ℕ) → Searched ids id (Ok i) → not (get_or ids i 0 == id) ≡ false
found_there ids id i h = let e = h.1 in let same : (get_or ids i 0 == id) ≡ true = grind (arith, nat_tests, e) in ap not same

pub found_nowhere : (ids : List ℕ) (id i : ℕ) → Searched ids id (Err i) → filter (λ other. not (other == id)) ids ≡ ids
found_nowhere ids id i h = filter-all (λ other. not (other == id)) ids (λ k below. ap not (apart k below))
  where
    apart : (k : ℕ) → k < length ids → (get_or ids k 0 == id) ≡ false
    apart k below = elim (cases_lt k i) [ inl less ↦ (let l = h.1 k less in grind (arith, nat_tests, l)) | inr ge ↦ (let l = h.2 k ge below in grind (arith, nat_tests, l)) ]

-- ---- what a test lists goes, one element after the other
pub filter-first : {X : Type 0} (f : ℕ → X → Bool) (xs : List X) (ids : List ℕ) → ids ≡ filter (λ id. not (list_any (f id) (take 0 xs))) ids
filter-first f xs ids = sym (filter-all (λ id. not (list_any (f id) (take 0 xs))) ids (λ i below. refl))

neither : (a b : Bool) → not a && not b ≡ not (a || (b || false))
neither true b = refl
neither false true = refl
neither false false = refl

pub filter-next : {X : Type 0} (f : ℕ → X → Bool) (xs : List X) (i : ℕ) (x : X) (old ids new : List ℕ) → i < length xs → x ≡ get_or xs i x → ids ≡ filter (λ id. not (list_any (f id) (take i xs))) old → new ≡ filter (λ id. not (f id x)) ids
    → new ≡ filter (λ id. not (list_any (f id) (take (i + 1) xs))) old
filter-next f xs i x old ids new within is left next =
    next
    ∙ ap (filter (λ id. not (f id x))) left
    ∙ filter-twice (λ id. not (list_any (f id) (take i xs))) (λ id. not (f id x)) old
    ∙ filter-same _ _ (λ id.
    neither (list_any (f id) (take i xs)) (f id x)
    ∙ ap (λ y. not (list_any (f id) (take i xs) || (f id y || false))) is
    ∙ ap not (sym (list_any-append (f id) (take i xs) (get_or xs i x ∷ [])))
    ∙ ap (λ ys. not (list_any (f id) ys)) (sym (take_more xs i x within))) old

-- what stands at a place does not depend on what a read past the end would give
pub get_or-any : {X : Type 0} (xs : List X) (i : ℕ) (d e : X) → i < length xs → get_or xs i d ≡ get_or xs i e
get_or-any [] i d e l = absurd (omega (arith, l))
get_or-any (x ∷ xs) zero d e l = refl
get_or-any (x ∷ xs) (suc i) d e l = get_or-any xs i d e (omega (arith, l))
