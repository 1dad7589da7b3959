use Rattle.std.proofs.Common.{◌≡◌, ◌≤◌, ◌<◌, ◌+◌, ◌*◌, ◌∙◌, ◌^◌, ℕ, get_or, sym, arith}
use Rattle.console_operand.specs.Number.{digit_of}
use Rattle.console_operand.proofs.Numerals.{too_great_at}
use Rattle.console_operand.proofs.number.numeral.Goals as goal

pub returns-in_err-checked_mul : goal.returns-in_err-checked_mul
returns-in_err-checked_mul c =
    let at : ℕ = c.loop-byte.byte-index in
    let base : c.from.result ≡ c.args.base = c.from.ensures in
    let over : c.loop-byte.value * c.from.result < 2 ^ 64 → ⊥ = c.in_err-checked_mul.ensures in
    let great : 2 ^ 64 ≤ c.loop-byte.value * c.args.base + digit_of (get_or c.args.digits.now at 0) = rw (sym base) (omega (arith, over)) in
    c.from_residual.ensures
    ∙ sym (too_great_at (2 ^ 64) c.args.base c.loop-byte.value at c.args.digits.now c.requires.some c.loop-byte-test.true great)
    ∙ c.loop-byte.invariant.left

pub returns-in_err-value : goal.returns-in_err-value
returns-in_err-value c =
    let at : ℕ = c.loop-byte.byte-index in
    let base : c.from.result ≡ c.args.base = c.from.ensures in
    let (_, product) = c.in_ok-checked_mul.ensures in
    let digit : c.from-in-loop-byte.result ≡ digit_of (get_or c.args.digits.now at 0) = c.from-in-loop-byte.ensures ∙ c.digit-digit.ensures in
    let over : c.in_ok-checked_mul.field-0 + c.from-in-loop-byte.result < 2 ^ 64 → ⊥ = c.in_err-value.ensures in
    let great : 2 ^ 64 ≤ c.loop-byte.value * c.args.base + digit_of (get_or c.args.digits.now at 0) =
    rw (sym base, sym digit, sym product) (omega (arith, over)) in
    c.from_residual-in_err-value.ensures
    ∙ sym (too_great_at (2 ^ 64) c.args.base c.loop-byte.value at c.args.digits.now c.requires.some c.loop-byte-test.true great)
    ∙ c.loop-byte.invariant.left
