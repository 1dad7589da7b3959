-- The numbers of seats: which are among some, and that they differ.
use Rattle.std.proofs.Common.{◌≡◌, ℕ, ◌<◌, ◌==◌, ◌||◌, Bool, true, false, List, [], ◌∷◌, ◌++◌, length, nat_eq, take, refl, ap, sym, ◌∙◌, subst, arith, rules, length-append}
use Rattle.std.specs.List.{IsDistinct, AllByRecursion}
use Rattle.std.proofs.lemmas.List.Folds.{list_any-append}
use Rattle.std.proofs.Math.Seq.{take-append_seam}
use Rattle.std.proofs.lemmas.Bool.Decides.{nat_tests}
use Rattle.thread_lock.specs.History.{has}
use Rattle.thread_lock.specs.Plays.{first_number, front_of}

-- ---- tests
pub not_true : (b : Bool) → (b ≡ true → ⊥) → b ≡ false
not_true true f = absurd (f refl)
not_true false f = refl

pub false_before : (a b : Bool) → (a ≡ true → b ≡ true) → b ≡ false → a ≡ false
false_before true b f e = absurd (let t = f refl in cc)
false_before false b f e = refl

pub one_or_other : (a b : Bool) (P : Type 0) → a || b ≡ true → (a ≡ true → P) → (b ≡ true → P) → P
one_or_other true b P h f g = f refl
one_or_other false b P h f g = g h

pub or_left : (a b : Bool) → a ≡ true → a || b ≡ true
or_left a b e = cc

pub or_right : (a b : Bool) → b ≡ true → a || b ≡ true
or_right true b e = refl
or_right false b e = e

-- ---- which numbers there are
pub has-append : (ns ms : List ℕ) (n : ℕ) → has (ns ++ ms) n ≡ (has ns n || has ms n)
has-append ns ms n = list_any-append (λ m. m == n) ns ms

pub has_one : (n m : ℕ) → has (m ∷ []) n ≡ true → m ≡ n
has_one n m h = grind (arith, nat_tests)

pub has_first : (ns : List ℕ) → 0 < length ns → has ns (first_number ns) ≡ true
has_first [] l = absurd (omega arith)
has_first (n ∷ ns) l = or_left (n == n) (has ns n) (grind (arith, nat_tests))

-- a lone number is the first
pub only_number : (ns : List ℕ) (n : ℕ) → ns ≡ n ∷ [] → ns ≡ first_number ns ∷ []
only_number ns n e = e ∙ ap (λ (ms : List ℕ). first_number ms ∷ []) (sym e)

-- ---- numbers that differ
pub none_distinct : IsDistinct nat_eq []
unfolding IsDistinct
none_distinct = search rules

pub one_distinct : (n : ℕ) → IsDistinct nat_eq (n ∷ [])
unfolding IsDistinct
one_distinct n = search rules

all-append : {X : Type 0} (P : X → Type 0) (xs ys : List X) → AllByRecursion P xs → AllByRecursion P ys → AllByRecursion P (xs ++ ys)
all-append P [] ys p q = q
all-append P (x ∷ xs) ys p q = (p.0, all-append P xs ys p.1 q)

all_differ : (n : ℕ) (ms : List ℕ) → (has ms n ≡ true → ⊥) → AllByRecursion (λ m. nat_eq n m ≡ false) ms
all_differ n [] not = tt
all_differ n (m ∷ ms) not = (not_true (nat_eq n m) (λ h. not (or_left (m == n) (has ms n) (grind (arith, nat_tests)))), all_differ n ms (λ h. not (or_right (m == n) (has ms n) h)))

-- two rows of distinct numbers that have none in common are one
pub distinct-append : (ns ms : List ℕ) → IsDistinct nat_eq ns → IsDistinct nat_eq ms → ((n : ℕ) → has ns n ≡ true → has ms n ≡ true → ⊥) → IsDistinct nat_eq (ns ++ ms)
unfolding IsDistinct
distinct-append [] ms p q apart = q
distinct-append (n ∷ ns) ms p q apart = (
  all-append (λ m. nat_eq n m ≡ false) ns ms p.0 (all_differ n ms (λ h. apart n (has_first (n ∷ ns) (omega arith)) h)),
  distinct-append ns ms p.1 q (λ m a b. apart m (or_right (n == m) (has ns m) a) b),
)

-- and of one row of distinct numbers both parts are, and have none in common
all-parts : {X : Type 0} (P : X → Type 0) (xs ys : List X) → AllByRecursion P (xs ++ ys) → AllByRecursion P xs × AllByRecursion P ys
all-parts P [] ys p = (tt, p)
all-parts P (x ∷ xs) ys p = let r = all-parts P xs ys p.1 in ((p.0, r.0), r.1)

is_not_among : (n : ℕ) (ms : List ℕ) → AllByRecursion (λ m. nat_eq n m ≡ false) ms → has ms n ≡ true → ⊥
is_not_among n [] d h = let z : false ≡ true = h in cc
is_not_among n (m ∷ ms) d h = one_or_other (m == n) (has ms n) ⊥ h (λ e. let other = d.0 in grind (arith, nat_tests)) (λ t. is_not_among n ms d.1 t)

pub record Parts (ns ms : List ℕ) : Type 0 where
  pub first : IsDistinct nat_eq ns
  pub second : IsDistinct nat_eq ms
  pub apart : (n : ℕ) → has ns n ≡ true → has ms n ≡ true → ⊥

pub distinct_parts : (ns ms : List ℕ) → IsDistinct nat_eq (ns ++ ms) → Parts ns ms
unfolding IsDistinct
distinct_parts [] ms d = record { first = tt; second = d; apart = λ n a b. let z : false ≡ true = a in cc }
distinct_parts (n ∷ ns) ms d =
    let r = distinct_parts ns ms d.1 in
    let all = all-parts (λ m. nat_eq n m ≡ false) ns ms d.0 in
    record {
      first = (all.0, r.first);
      second = r.second;
      apart = λ m a b. one_or_other (n == m) (has ns m) ⊥ a (λ e. is_not_among m ms (all_along n m e ms all.1) b) (λ t. r.apart m t b);
    }
  where
    all_along : (n m : ℕ) → (n == m) ≡ true → (ms : List ℕ) → AllByRecursion (λ x. nat_eq n x ≡ false) ms → AllByRecursion (λ x. nat_eq m x ≡ false) ms
    all_along n m e ms d = let same : n ≡ m = grind (arith, nat_tests) in subst (λ (x : ℕ). AllByRecursion (λ y. nat_eq x y ≡ false) ms) same d

-- the front of two rows without the second
pub front_first : (ns ms : List ℕ) → front_of (ns ++ ms) ms ≡ ns
front_first ns ms = ap (λ (k : ℕ). take k (ns ++ ms)) (omega (arith, length-append ns ms)) ∙ take-append_seam ns ms
