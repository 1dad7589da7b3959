use Rattle.std.proofs.Common.{◌≡◌, sym, ◌∙◌, ap, arith, get_or, true}
use Rattle.console_operand.specs.Word.{is_space}
use Rattle.console_operand.specs.Number.{digit_of}
use Rattle.console_operand.proofs.ShortRead.{hex_begins}
use Rattle.console_operand.proofs.short_byte.hex_pair.Goals as goal

pub returns : goal.returns
returns c =
    let line = c.args.line.now in
    let space : is_space (get_or line 0 0) ≡ true = ap is_space c.if-space-ne32.false in
    let first : c.digit-high.result ≡ digit_of (get_or line 1 0) = c.digit-high.ensures in
    let second : c.digit-low.result ≡ digit_of (get_or line 2 0) = c.digit-low.ensures in
    rw (first, second)
    (hex_begins line c.in-len3-up.len_at_least space (rw (sym first) (omega (arith, c.if-high-gt15.false))) (rw (sym second) (omega (arith, c.if-low-gt15.false)))
    (sym c.ends_here.ensures ∙ c.if-not-ends_here.false))
