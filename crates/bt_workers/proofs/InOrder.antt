-- The ends of all frames, each once, by ascending number.
use Rattle.std.proofs.Common.{◌≡◌, ◌==◌, ℕ, ◌+◌, ◌<◌, ◌≤◌, if◌then◌else◌, List, [], ◌∷◌, ◌++◌, length, refl, sym, ◌∙◌, ap, arith}
use Rattle.std.specs.List.{sum_by, range_with_len}
use Rattle.std.specs.List.Sorted.{IsPermutation, IsNonDecreasingBy}
use Rattle.std.proofs.lemmas.List.{get_or-map, length-map}
use Rattle.std.proofs.lemmas.List.Sums.{sum_by-cons, sum_by-append}
use Rattle.std.proofs.lemmas.List.Sorted.{sum_by-IsPermutation}
use Rattle.thread_frames.specs.Deal.{times, once, TakesEach}
use Rattle.thread_frames.proofs.Order.{in_order}
use Rattle.bt_workers.specs.declared.result.FrameResult.{FrameResult}
use Rattle.bt_workers.specs.Worked.{number_of, numbers_of}

abbrev is_it : ℕ → ℕ → ℕ
is_it k n = if n == k then 1 else 0

times_of : (k : ℕ) (ends : List FrameResult) → times k (numbers_of ends) ≡ sum_by (λ ended. is_it k (number_of ended)) ends
times_of k [] = refl
times_of k (e ∷ ends) = sum_by-cons (is_it k) (number_of e) (numbers_of ends) ∙ (ap (λ n. is_it k (number_of e) + n) (times_of k ends) ∙ sym (sum_by-cons (λ ended. is_it k (number_of ended)) e ends))

times_append : (k : ℕ) (xs ys : List ℕ) → times k (xs ++ ys) ≡ times k xs + times k ys
times_append k xs ys = sum_by-append (is_it k) xs ys

rises : (d : FrameResult) (ends : List FrameResult) → IsNonDecreasingBy number_of ends → IsNonDecreasingBy (λ n. n) (numbers_of ends)
rises d ends h i j e before below =
    let short : j < length ends = omega (arith, below, length-map ends number_of) in
    let a = get_or-map number_of ends i d e (omega (arith, before, short)) in
    let b = get_or-map number_of ends j d e short in
    omega (arith, a, b, h i j d before short)

rises_any : (ends : List FrameResult) → IsNonDecreasingBy number_of ends → IsNonDecreasingBy (λ n. n) (numbers_of ends)
rises_any [] h = λ i j e before below. absurd (omega (arith, below))
rises_any (x ∷ ends) h = rises x (x ∷ ends) h

pub all_in_order : (n : ℕ) (ones rest twos ends : List FrameResult) → TakesEach ((numbers_of ones ++ numbers_of twos) ++ numbers_of rest) n → IsPermutation ((ones ++ rest) ++ twos) ends → IsNonDecreasingBy number_of ends
    → numbers_of ends ≡ range_with_len 1 n
all_in_order n ones rest twos ends each order up =
    in_order n (numbers_of ends) (rises_any ends up)
    (λ k.
    let is : FrameResult → ℕ = λ ended. is_it k (number_of ended) in
    let same = sum_by-IsPermutation is ((ones ++ rest) ++ twos) ends order in
    let a = sum_by-append is (ones ++ rest) twos in
    let b = sum_by-append is ones rest in
    let p = times_append k (numbers_of ones ++ numbers_of twos) (numbers_of rest) in
    let q = times_append k (numbers_of ones) (numbers_of twos) in
    let t1 = times_of k ones in
    let t2 = times_of k rest in
    let t3 = times_of k twos in
    let t4 = times_of k ends in
    let e = each k in
    omega (arith, same, a, b, p, q, t1, t2, t3, t4, e))

pub taken_each : (a b xs ys more : List ℕ) (m n : ℕ) → a ≡ xs → b ≡ ys → m ≡ n → TakesEach ((a ++ b) ++ more) m → TakesEach ((xs ++ ys) ++ more) n
taken_each a b xs ys more m n p q same h k =
    ap (λ ns. times k ((ns ++ ys) ++ more)) (sym p) ∙ (ap (λ ns. times k ((a ++ ns) ++ more)) (sym q) ∙ (h k ∙ ap (once k) same))
