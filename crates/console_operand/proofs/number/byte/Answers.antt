use Rattle.std.proofs.Common.{◌∙◌, ◌^◌, ◌≤◌, ap, arith}
use Rattle.console_operand.specs.Number.{below, spelled_number}
use Rattle.console_operand.proofs.Numerals.{below_both}
use Rattle.console_operand.proofs.number.byte.Goals as goal

pub returns : goal.returns
returns c =
    let lower : 256 ≤ 2 ^ 64 = omega arith in
    c.as_byte.ensures ∙ ap (below 256) c.number.ensures ∙ below_both 256 (2 ^ 64) (spelled_number c.args.word.now) lower
