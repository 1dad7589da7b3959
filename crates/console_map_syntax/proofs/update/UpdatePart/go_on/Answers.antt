use Rattle.std.proofs.Common.{sym, subst, IfOk, refl}
use Rattle.std.proofs.lemmas.Result.{IfOk-weaker}
use Rattle.console_operand.specs.Automaton.{GoesOver}
use Rattle.console_operand.specs.DataSteps.{data_step}
use Rattle.console_operand.specs.ValueSteps.{value_step}
use Rattle.console_map_syntax.specs.UpdateSteps.{part_step}
use Rattle.console_map_syntax.specs.declared.update.UpdatePart.TheVariants as part
use Rattle.console_operand.proofs.OverRead.{over_mapped}
use Rattle.console_map_syntax.proofs.update.UpdatePart.go_on.Goals as goal

pub returns-in-Key-clause-goes_on : goal.returns-in-Key-clause-goes_on
returns-in-Key-clause-goes_on c =
    subst (λ s. IfOk c.go_on.result (λ goes. GoesOver part_step goes s c.args.word.now c.args.unread.now (part.Key c.go_on.new.self) c.go_on.new.unread)) (sym c.in-Key.is)
    (IfOk-weaker c.go_on.result _ _
    (λ goes h. over_mapped data_step part_step part.Key (λ d w. refl) goes c.in-Key.read c.go_on.new.self c.args.word.now c.args.unread.now c.go_on.new.unread h) c.go_on.ensures.goes_on)

pub returns-in-Value-clause-goes_on : goal.returns-in-Value-clause-goes_on
returns-in-Value-clause-goes_on c =
    let call = c.go_on-in-Value in
    subst (λ s. IfOk call.result (λ goes. GoesOver part_step goes s c.args.word.now c.args.unread.now (part.Value call.new.self) call.new.unread)) (sym c.in-Value.is)
    (IfOk-weaker call.result _ _
    (λ goes h. over_mapped value_step part_step part.Value (λ s w. refl) goes c.in-Value.read call.new.self c.args.word.now c.args.unread.now call.new.unread h) call.ensures.goes_on)
