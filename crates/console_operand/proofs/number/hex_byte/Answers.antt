use Rattle.std.proofs.Common.{◌∙◌, ◌^◌, ◌≤◌, ap, arith}
use Rattle.console_operand.specs.Number.{below, numeral_of, without_0x}
use Rattle.console_operand.proofs.Numerals.{below_both}
use Rattle.console_operand.proofs.number.hex_byte.Goals as goal

pub returns : goal.returns
returns c =
    let lower : 256 ≤ 2 ^ 64 = omega arith in
    c.as_byte.ensures ∙ ap (below 256) (c.numeral.ensures ∙ ap (λ digits. below (2 ^ 64) (numeral_of 16 digits)) c.without_0x.ensures)
    ∙ below_both 256 (2 ^ 64) (numeral_of 16 (without_0x c.args.word.now)) lower
