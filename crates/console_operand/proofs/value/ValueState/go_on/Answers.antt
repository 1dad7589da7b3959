use Rattle.std.proofs.Common.{sym, subst, IfOk, refl}
use Rattle.std.proofs.lemmas.Result.{IfOk-weaker}
use Rattle.console_operand.specs.Automaton.{GoesOn, GoesOver}
use Rattle.console_operand.specs.DataSteps.{data_step}
use Rattle.console_operand.specs.ValueSteps.{value_step}
use Rattle.console_operand.specs.declared.value.ValueState.TheVariants as v
use Rattle.console_operand.proofs.OverRead.{goes_one, over_mapped}
use Rattle.console_operand.proofs.value.ValueState.go_on.Goals as goal

pub returns-in-Data-clause-goes_on : goal.returns-in-Data-clause-goes_on
returns-in-Data-clause-goes_on c =
    subst (λ s. IfOk c.go_on.result (λ goes. GoesOver value_step goes s c.args.word.now c.args.unread.now (v.Data c.go_on.new.self) c.go_on.new.unread)) (sym c.in-Data.is)
    (IfOk-weaker c.go_on.result _ _
    (λ goes h. over_mapped data_step value_step v.Data (λ d w. refl) goes c.in-Data.read c.go_on.new.self c.args.word.now c.args.unread.now c.go_on.new.unread h) c.go_on.ensures.goes_on)

pub returns-in-Object-clause-goes_on : goal.returns-in-Object-clause-goes_on
returns-in-Object-clause-goes_on c =
    goes_one value_step c.name.result c.args.self.now c.name.new.self c.args.word.now c.args.unread.now
    (subst (λ s. GoesOn c.name.result (value_step s c.args.word.now) c.name.new.self) (sym c.in-Object.is) c.name.ensures.goes_on)
