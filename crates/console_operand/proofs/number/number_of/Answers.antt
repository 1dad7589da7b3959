use Rattle.std.proofs.Common.{◌∙◌, ◌^◌, ◌≤◌, ap, arith}
use Rattle.console_operand.specs.Number.{below, spelled_number}
use Rattle.console_operand.proofs.Numerals.{below_both}
use Rattle.console_operand.proofs.number.number_of.Goals as goal

pub returns : goal.returns
returns c =
    let lower : 2 ^ 32 ≤ 2 ^ 64 = omega arith in
    c.in_32_bits.ensures ∙ ap (below (2 ^ 32)) c.number.ensures ∙ below_both (2 ^ 32) (2 ^ 64) (spelled_number c.args.word.now) lower
