-- Digits read one at a time, and numbers below a limit.
use Rattle.std.proofs.Common.{◌≡◌, ℕ, ◌+◌, ◌*◌, ◌<◌, ◌≤◌, true, false, cond, List, [], ◌∷◌, length, drop, get_or, refl, sym, ap, subst, arith, Option, Some, None, ltb, suc}
use Rattle.std.specs.List.{list_all}
use Rattle.std.proofs.Math.Nat.{mul-le-mul_left}
use Rattle.std.proofs.Math.Seq.{drop-cons}
use Rattle.std.proofs.lemmas.Bool.{le-ltb, ltb-false}
use Rattle.console_operand.specs.Number.{digit_of, is_digit, value_behind, digits_behind, below}

-- more digits make no smaller number
value_grows : (base n : ℕ) (bytes : List ℕ) → 0 < base → n ≤ value_behind base n bytes
value_grows base n [] some = omega arith
value_grows base n (byte ∷ bytes) some =
    let here : n * 1 ≤ n * base = mul-le-mul_left n some in
    let behind = value_grows base (n * base + digit_of byte) bytes some in
    omega (arith, here, behind)

-- a number that is too great
too_great : (limit base n : ℕ) (bytes : List ℕ) → limit ≤ value_behind base n bytes → below limit (digits_behind base n bytes) ≡ None
too_great limit base n bytes great =
    elim (list_all (is_digit base) bytes) as (λ b. below limit (cond b (Some (value_behind base n bytes)) None) ≡ None) [
      | true ↦ ap (λ b. cond b (Some (value_behind base n bytes)) None) (le-ltb (value_behind base n bytes) limit great)
      | false ↦ refl
    ]

-- a digit that makes it too great
pub too_great_at : (limit base n i : ℕ) (bytes : List ℕ) → 0 < base → i < length bytes → limit ≤ n * base + digit_of (get_or bytes i 0) →
    below limit (digits_behind base n (drop i bytes)) ≡ None
too_great_at limit base n i bytes some inside great =
    let grows = value_grows base (n * base + digit_of (get_or bytes i 0)) (drop (suc i) bytes) some in
    subst (λ rest. below limit (digits_behind base n rest) ≡ None) (sym (drop-cons bytes i 0 inside))
    (too_great limit base n (get_or bytes i 0 ∷ drop (suc i) bytes) (omega (arith, great, grows)))

-- of two limits the lower one counts
pub below_both : (low high : ℕ) (o : Option ℕ) → low ≤ high → below low (below high o) ≡ below low o
below_both low high None h = refl
below_both low high (Some n) h =
    elim (ltb n high) as (λ b. ltb n high ≡ b → below low (cond b (Some n) None) ≡ below low (Some n)) [
      | true ↦ λ _. refl
      | false ↦ λ e. sym (ap (λ b. cond b (Some n) None) (le-ltb n low (omega (arith, h, ltb-false n high e))))
    ] refl
