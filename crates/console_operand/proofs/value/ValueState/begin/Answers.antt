use Rattle.std.proofs.Common.{◌≡◌, sym, ◌∙◌, ap, subst, true, Some}
use Rattle.std.specs.Option.{option_map}
use Rattle.console_operand.specs.Automaton.{GoesOver}
use Rattle.console_operand.specs.DataSteps.{no_data, data_step}
use Rattle.console_operand.specs.ValueSteps.{begun_by, value_step}
use Rattle.console_operand.specs.declared.reference.Naming.TheVariants as n
use Rattle.console_operand.specs.declared.value.ValueState.TheVariants as v
use Rattle.console_operand.proofs.OverRead.{takes_none, takes_within}
use Rattle.console_operand.proofs.value.ValueState.begin.Goals as goal

pub returns-in-Some-clause-goes_on : goal.returns-in-Some-clause-goes_on
returns-in-Some-clause-goes_on c =
    let word = c.args.word.now in
    let state = v.Object (n.Object c.in-Some.form) in
    let step : value_step c.args.self.now word ≡ Some state = ap (λ s. value_step s word) c.requires ∙ ap (λ o. begun_by o word) (sym c.of.ensures ∙ c.in-Some.is) in
    (state, step, takes_none value_step state c.args.unread.now)

pub returns-clause-goes_on : goal.returns-clause-goes_on
returns-clause-goes_on c =
    let word = c.args.word.now in
    let read : GoesOver data_step true no_data word c.args.unread.now c.go_on.new.self c.go_on.new.unread =
    subst (λ b. GoesOver data_step b no_data word c.args.unread.now c.go_on.new.self c.go_on.new.unread) c.if-not-branch.false
    (subst (λ d. GoesOver data_step c.in_ok-go_on.field-0 d word c.args.unread.now c.go_on.new.self c.go_on.new.unread) c.new-read.ensures c.in_ok-go_on.ensures.goes_on) in
    let step : value_step c.args.self.now word ≡ Some (v.Data read.0) =
    ap (λ s. value_step s word) c.requires ∙ ap (λ o. begun_by o word) (sym c.of.ensures ∙ c.in_default.is) ∙ ap (option_map v.Data) read.1 in
    (v.Data read.0, step, takes_within data_step value_step v.Data (λ d more w e. ap (option_map v.Data) e) read.0 c.go_on.new.self c.args.unread.now c.go_on.new.unread read.2)
