-- The hexadecimal digits of a number, the lowest one last.
use Rattle.std.proofs.Common.{◌≡◌, ◌≤◌, ◌<◌, ◌-◌, ◌/◌, ℕ, zero, suc, true, false, ◌++◌, ap, ◌∙◌, arith}
use Rattle.std.specs.Prelude.{nat_lt, if◌then◌else◌}
use Rattle.std.proofs.lemmas.Bool.Decides.{nat_tests}
use Rattle.console_text.specs.Text.{hexadecimal_within, low_digit}

pub of_one_digit : (digits n : ℕ) → 0 < digits → n < 16 → hexadecimal_within digits n ≡ low_digit n
of_one_digit zero n below short = absurd (omega (arith, below))
of_one_digit (suc digits) n below short =
    let is_short : nat_lt n 16 ≡ true = grind (arith, nat_tests, short) in
    ap (λ b. if b then low_digit n else hexadecimal_within digits (n / 16) ++ low_digit n) is_short

pub of_more_digits : (digits n : ℕ) → 0 < digits → 16 ≤ n → hexadecimal_within digits n ≡ hexadecimal_within (digits - 1) (n / 16) ++ low_digit n
of_more_digits zero n below long = absurd (omega (arith, below))
of_more_digits (suc digits) n below long =
    let is_long : nat_lt n 16 ≡ false = grind (arith, nat_tests, long) in
    let one_less : digits ≡ suc digits - 1 = omega arith in
    ap (λ b. if b then low_digit n else hexadecimal_within digits (n / 16) ++ low_digit n) is_long ∙ ap (λ k. hexadecimal_within k (n / 16) ++ low_digit n) one_less
