use Rattle.std.proofs.Common.{sym, ◌∙◌, ap}
use Rattle.console_operand.specs.Line.{without_cr}
use Rattle.console_operand.proofs.LineCuts.{cr_off, no_cr}
use Rattle.console_operand.proofs.line.without_cr.Goals as goal

pub returns-then-last-eq13 : goal.returns-then-last-eq13
returns-then-last-eq13 c = sym (ap without_cr c.in-Some.ensures.cases.0 ∙ cr_off c.in-Some.front.now c.in-Some.last.now c.if-last-eq13.true)

pub returns-else-last-eq13 : goal.returns-else-last-eq13
returns-else-last-eq13 c =
    let parts = c.in-Some.ensures.cases.0 in
    parts ∙ sym (ap without_cr parts ∙ no_cr c.in-Some.front.now c.in-Some.last.now c.if-last-eq13.false)
