use Rattle.std.proofs.Common.{◌≡◌, sym, ◌∙◌, ap, arith, get_or, true}
use Rattle.console_operand.specs.Word.{is_space}
use Rattle.console_operand.specs.Number.{digit_of}
use Rattle.console_operand.proofs.ShortRead.{three_begin}
use Rattle.console_operand.proofs.short_byte.three_digits.Goals as goal

pub returns : goal.returns
returns c =
    let line = c.args.line.now in
    let space : is_space (get_or line 0 0) ≡ true = ap is_space c.if-space-ne32.false in
    let of_hundreds : c.decimal-hundreds.result ≡ digit_of (get_or line 1 0) = sym (c.decimal-hundreds.ensures (omega (arith, c.if-hundreds-gt9.false))) in
    let hundreds : c.from.result ≡ digit_of (get_or line 1 0) = c.from.ensures ∙ of_hundreds in
    let of_tens : c.decimal-tens.result ≡ digit_of (get_or line 2 0) = sym (c.decimal-tens.ensures (omega (arith, c.if-tens-gt9.false))) in
    let tens : c.from-2.result ≡ digit_of (get_or line 2 0) = c.from-2.ensures ∙ of_tens in
    let of_ones : c.decimal-ones.result ≡ digit_of (get_or line 3 0) = sym (c.decimal-ones.ensures (omega (arith, c.if-ones-gt9.false))) in
    let ones : c.from-3.result ≡ digit_of (get_or line 3 0) = c.from-3.ensures ∙ of_ones in
    rw (hundreds, tens, ones)
    (three_begin line c.in-len4-up.len_at_least space (λ zero. c.if-hundreds-eq0.false (of_hundreds ∙ zero))
    (rw (sym of_hundreds) (omega (arith, c.if-hundreds-gt9.false))) (rw (sym of_tens) (omega (arith, c.if-tens-gt9.false))) (rw (sym of_ones) (omega (arith, c.if-ones-gt9.false)))
    (rw (sym hundreds, sym tens, sym ones) (omega (arith, c.if-value-gt255.false))) (sym c.ends_here.ensures ∙ c.if-not-ends_here.false))
