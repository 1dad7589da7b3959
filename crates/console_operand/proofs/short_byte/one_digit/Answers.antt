use Rattle.std.proofs.Common.{◌≡◌, sym, ◌∙◌, ap, arith, get_or, true}
use Rattle.console_operand.specs.Word.{is_space}
use Rattle.console_operand.specs.Number.{digit_of}
use Rattle.console_operand.proofs.ShortRead.{one_begins}
use Rattle.console_operand.proofs.short_byte.one_digit.Goals as goal

pub returns : goal.returns
returns c =
    let line = c.args.line.now in
    let space : is_space (get_or line 0 0) ≡ true = ap is_space c.if-space-ne32.false in
    let ones : c.decimal-ones.result ≡ digit_of (get_or line 1 0) = sym (c.decimal-ones.ensures (omega (arith, c.if-ones-gt9.false))) in
    rw ones
    (one_begins line c.in-len2-up.len_at_least space (rw (sym ones) (omega (arith, c.if-ones-gt9.false))) (sym c.ends_here.ensures ∙ c.if-not-ends_here.false))
