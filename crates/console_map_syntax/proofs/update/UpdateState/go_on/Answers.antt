use Rattle.std.proofs.Common.{◌≡◌, true, sym, ◌∙◌, ap, Some}
use Rattle.std.specs.Option.{option_map}
use Rattle.console_map_syntax.specs.UpdateSteps.{named_update, update_step}
use Rattle.console_map_syntax.specs.declared.update.UpdateState.TheVariants as update
use Rattle.console_operand.proofs.OverRead.{goes_one}
use Rattle.console_map_syntax.proofs.update.UpdateState.go_on.Goals as goal

pub returns-in-Some-Going-clause-goes_on : goal.returns-in-Some-Going-clause-goes_on
returns-in-Some-Going-clause-goes_on c =
    let next = update.Map c.in-Some-Going.next in
    let step : update_step c.args.self.now c.args.word.now ≡ Some next =
    ap (λ s. update_step s c.args.word.now) c.in-Map.is ∙ ap (option_map named_update) (sym c.after.ensures ∙ c.in-Some-Going.is ∙ ap Some c.in-Some-Going.field-0-is) in
    goes_one update_step true c.args.self.now next c.args.word.now c.args.unread.now step

pub returns-in-Some-Found-clause-goes_on : goal.returns-in-Some-Found-clause-goes_on
returns-in-Some-Found-clause-goes_on c =
    let next = update.Given c.new.result in
    let step : update_step c.args.self.now c.args.word.now ≡ Some next =
    ap (λ s. update_step s c.args.word.now) c.in-Map.is
    ∙ ap (option_map named_update) (sym c.after.ensures ∙ c.in-Some-Found.is ∙ ap Some c.in-Some-Found.field-0-is)
    ∙ ap (λ g. Some (update.Given g)) (sym c.new.ensures) in
    goes_one update_step true c.args.self.now next c.args.word.now c.args.unread.now step
