-- A text cut at a byte.
use Rattle.std.proofs.Common.{◌≡◌, ℕ, ◌+◌, ◌<◌, ◌≤◌, Bool, true, false, cond, List, [], ◌∷◌, length, take, drop, refl, sym, ◌∙◌, ap, arith, Some, None}
use Rattle.std.specs.Prelude.{nat_lt}
use Rattle.std.specs.List.{position, position_or_len, slice_split, before_first, after_first}
use Rattle.std.proofs.lemmas.List.Splits.{slice_split_none, slice_split_first}
use Rattle.std.proofs.lemmas.List.Sums.{fails_before_first}
use Rattle.std.proofs.lemmas.List.{take_all, drop_all}
use Rattle.std.proofs.lemmas.Bool.{ltb-true, ltb-false}

module _ (p : ℕ → Bool) (xs : List ℕ) where
  -- the place at which it is found
  pub found : (at : ℕ) → position p xs ≡ Some at → (position_or_len p xs ≡ at) × (at < length xs)
  found at is =
      elim (nat_lt (position_or_len p xs) (length xs)) as (λ b. nat_lt (position_or_len p xs) (length xs) ≡ b → (position_or_len p xs ≡ at) × (at < length xs)) [
        | true ↦ λ below. let same : Some (position_or_len p xs) ≡ Some at = sym (ap (λ b. cond b (Some (position_or_len p xs)) None) below) ∙ is in let here : position_or_len p xs ≡ at = cc in (here, omega (arith, ltb-true (position_or_len p xs) (length xs) below, here))
        | false ↦ λ above. absurd (let none : None ≡ Some at = sym (ap (λ b. cond b (Some (position_or_len p xs)) None) above) ∙ is in cc)
      ] refl

  -- if it is not found, no element passes
  pub not_found : position p xs ≡ None → length xs ≤ position_or_len p xs
  not_found is =
      elim (nat_lt (position_or_len p xs) (length xs)) as (λ b. nat_lt (position_or_len p xs) (length xs) ≡ b → length xs ≤ position_or_len p xs) [
        | true ↦ λ below. absurd (let some : Some (position_or_len p xs) ≡ None = sym (ap (λ b. cond b (Some (position_or_len p xs)) None) below) ∙ is in cc)
        | false ↦ λ above. ltb-false (position_or_len p xs) (length xs) above
      ] refl

  pub front_at : (at : ℕ) → position p xs ≡ Some at → take at xs ≡ before_first p xs
  front_at at is = ap (λ n. take n xs) (sym (found at is).0)

  pub behind_at : (at : ℕ) → position p xs ≡ Some at → drop (at + 1) xs ≡ after_first p xs
  behind_at at is = ap (λ n. drop (n + 1) xs) (sym (found at is).0)

  pub parts_at : (at : ℕ) → position p xs ≡ Some at → slice_split p xs ≡ take at xs ∷ slice_split p (drop (at + 1) xs)
  parts_at at is =
      slice_split_first p xs 0 (omega (arith, (found at is).0, (found at is).1))
      ∙ ap (λ n. take n xs ∷ slice_split p (drop (n + 1) xs)) (found at is).0

  pub front_whole : position p xs ≡ None → xs ≡ before_first p xs
  front_whole is = sym (take_all (position_or_len p xs) xs (not_found is))

  pub none_behind : position p xs ≡ None → after_first p xs ≡ []
  none_behind is = drop_all (position_or_len p xs + 1) xs (omega (arith, not_found is))

  pub one_part : position p xs ≡ None → slice_split p xs ≡ xs ∷ []
  one_part is = slice_split_none p xs (λ k d below. fails_before_first p xs k d (omega (arith, below, not_found is)))
