use Rattle.std.proofs.Common.{sym, subst, ap, IfOk}
use Rattle.std.specs.Option.{option_map}
use Rattle.std.proofs.lemmas.Result.{IfOk-weaker}
use Rattle.console_operand.specs.Automaton.{Takes}
use Rattle.console_operand.specs.DataSteps.{data_step}
use Rattle.console_operand.specs.ValueSteps.{value_step}
use Rattle.console_map_syntax.specs.UpdateSteps.{part_step}
use Rattle.console_map_syntax.specs.declared.update.UpdatePart.TheVariants as part
use Rattle.console_operand.proofs.OverRead.{takes_none, takes_within}
use Rattle.console_map_syntax.proofs.update.UpdatePart.take.Goals as goal

pub returns-in-Nothing : goal.returns-in-Nothing
returns-in-Nothing c = takes_none part_step c.args.self.now c.args.unread.now

pub returns-in-Key : goal.returns-in-Key
returns-in-Key c =
    subst (λ s. IfOk c.take.result (λ _. Takes part_step s c.args.unread.now (part.Key c.take.new.self) c.take.new.unread)) (sym c.in-Key.is)
    (IfOk-weaker c.take.result _ _
    (λ _ h. takes_within data_step part_step part.Key (λ d more w e. ap (option_map part.Key) e) c.in-Key.read c.take.new.self c.args.unread.now c.take.new.unread h) c.take.ensures)

pub returns-in-Value : goal.returns-in-Value
returns-in-Value c =
    let call = c.take-in-Value in
    subst (λ s. IfOk call.result (λ _. Takes part_step s c.args.unread.now (part.Value call.new.self) call.new.unread)) (sym c.in-Value.is)
    (IfOk-weaker call.result _ _
    (λ _ h. takes_within value_step part_step part.Value (λ s more w e. ap (option_map part.Value) e) c.in-Value.read call.new.self c.args.unread.now call.new.unread h) call.ensures)
