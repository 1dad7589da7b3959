-- Numbers that rise, each from 1 to n once, are those from 1 to n in order.
use Rattle.std.proofs.Common.{◌≡◌, ◌≢◌, ◌==◌, true, false, ℕ, zero, suc, ◌+◌, ◌<◌, ◌≤◌, nat_le, nat_lt, ◌&&◌, if◌then◌else◌, List, [], ◌∷◌, refl, ap, ◌∙◌, subst, ⊎_elim, arith}
use Rattle.std.specs.Prelude.{All}
use Rattle.std.specs.List.{range_with_len}
use Rattle.std.specs.List.Sorted.{IsNonDecreasingBy}
use Rattle.std.proofs.lemmas.Bool.Decides.{nat_tests, eqb_tells}
use Rattle.std.proofs.lemmas.List.Sums.{sum_by-cons}
use Rattle.std.proofs.lemmas.List.Elements.{All-head, All-tail}
use Rattle.thread_frames.specs.Deal.{times, once, TakesEach}

abbrev own : ℕ → ℕ
own n = n

-- 1 of a number from a on, of n numbers, and else 0
abbrev from : ℕ → ℕ → ℕ → ℕ
from a n k = if nat_le a k && nat_lt k (a + n) then 1 else 0

abbrev is_it : ℕ → ℕ → ℕ
is_it k n = if n == k then 1 else 0

times_cons : (k n : ℕ) (ns : List ℕ) → times k (n ∷ ns) ≡ is_it k n + times k ns
times_cons k n ns = sum_by-cons (is_it k) n ns

-- a number that stands in a list is none below a bound of all
bounded : (low k : ℕ) (ns : List ℕ) → All (λ n. low ≤ n) ns → 0 < times k ns → low ≤ k
bounded low k [] all some = absurd (omega arith)
bounded low k (n ∷ ns) all some =
    let more = times_cons k n ns in
    ⊎_elim (λ (t : ((n == k) ≡ true) × (n ≡ k)). subst (λ m. low ≤ m) t.1 (All-head (λ n. low ≤ n) n ns all))
    (λ (t : ((n == k) ≡ false) × (n ≢ k)). bounded low k ns (All-tail (λ n. low ≤ n) n ns all) (let none : is_it k n ≡ 0 = ap (λ b. if b then 1 else 0) t.0 in omega arith))
    (eqb_tells n k)

first_is_least : (n : ℕ) (ns : List ℕ) → IsNonDecreasingBy own (n ∷ ns) → All (λ m. n ≤ m) ns
first_is_least n ns rises k d below = rises 0 (suc k) d (omega arith) (omega arith)

rest_rises : (n : ℕ) (ns : List ℕ) → IsNonDecreasingBy own (n ∷ ns) → IsNonDecreasingBy own ns
rest_rises n ns rises i j d before below = rises (suc i) (suc j) d (omega arith) (omega arith)

in_order_from : (a n : ℕ) (ns : List ℕ) → IsNonDecreasingBy own ns → ((k : ℕ) → times k ns ≡ from a n k) → ns ≡ range_with_len a n
in_order_from a zero [] rises each = refl
in_order_from a (suc n) [] rises each = absurd (let e : 0 ≡ from a (suc n) a = each a in let t : from a (suc n) a ≡ 1 = grind (arith, nat_tests) in omega arith)
in_order_from a zero (m ∷ ns) rises each =
    absurd (let e = each m ∙ refl in let c = times_cons m m ns in let t : from a zero m ≡ 0 = grind (arith, nat_tests) in let o : is_it m m ≡ 1 = grind (arith, nat_tests) in omega arith)
in_order_from a (suc n) (m ∷ ns) rises each =
    let has : from a (suc n) a ≡ 1 = grind (arith, nat_tests) in
    let here : is_it m m ≡ 1 = grind (arith, nat_tests) in
    let at_m = each m in
    let at_a = each a in
    let cm = times_cons m m ns in
    let ca = times_cons a m ns in
    let low : a ≤ m = grind (arith, nat_tests) in
    let high : m ≤ a = grind (arith, nat_tests, bounded m a ns (first_is_least m ns rises)) in
    let same : m ≡ a = omega arith in
    let rest = in_order_from (a + 1) n ns (rest_rises m ns rises)
    (λ k. let e = each k in let c = times_cons k m ns in grind (arith, nat_tests)) in
    ap (λ x. x ∷ ns) same ∙ ap (λ xs. a ∷ xs) rest

pub in_order : (n : ℕ) (ns : List ℕ) → IsNonDecreasingBy own ns → TakesEach ns n → ns ≡ range_with_len 1 n
in_order n ns rises each = in_order_from 1 n ns rises (λ k. each k ∙ same k)
  where
    same : (k : ℕ) → once k n ≡ from 1 n k
    same k = grind (arith, nat_tests)
