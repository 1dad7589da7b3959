use Rattle.std.proofs.Common.{sym, subst, IfOk, refl}
use Rattle.std.proofs.lemmas.Result.{IfOk-weaker}
use Rattle.console_operand.specs.Automaton.{GoesOn, GoesOver}
use Rattle.console_operand.specs.PinSteps.{pin_step}
use Rattle.console_map_syntax.specs.CreateSteps.{create_step}
use Rattle.console_map_syntax.specs.UpdateSteps.{update_step}
use Rattle.console_map_syntax.specs.KeySteps.{key_step}
use Rattle.console_map_syntax.specs.PushSteps.{push_step}
use Rattle.console_map_syntax.specs.WholeSteps.{whole_step}
use Rattle.console_map_syntax.specs.MapSteps.{map_step}
use Rattle.console_map_syntax.specs.declared.state.MapState.TheVariants as m
use Rattle.console_operand.proofs.OverRead.{goes_one, goes_mapped, over_mapped}
use Rattle.console_map_syntax.proofs.state.MapState.go_on.Goals as goal

pub returns-in-Verb-clause-goes_on : goal.returns-in-Verb-clause-goes_on
returns-in-Verb-clause-goes_on c =
    goes_one map_step c.begin.result c.args.self.now c.begin.new.self c.args.word.now c.args.unread.now
    (subst (λ s. GoesOn c.begin.result (map_step s c.args.word.now) c.begin.new.self) (sym c.in-Verb.is) c.begin.ensures)

pub returns-in-Create-clause-goes_on : goal.returns-in-Create-clause-goes_on
returns-in-Create-clause-goes_on c =
    let call = c.go_on in
    subst (λ s. GoesOver map_step call.result s c.args.word.now c.args.unread.now (m.Create call.new.self) c.args.unread.now) (sym c.in-Create.is)
    (goes_mapped create_step map_step m.Create (λ s w. refl) call.result c.in-Create.state call.new.self c.args.word.now c.args.unread.now call.ensures)

pub returns-in-Update-clause-goes_on : goal.returns-in-Update-clause-goes_on
returns-in-Update-clause-goes_on c =
    let call = c.go_on-in-Update in
    subst (λ s. IfOk call.result (λ goes. GoesOver map_step goes s c.args.word.now c.args.unread.now (m.Update call.new.self) call.new.unread)) (sym c.in-Update.is)
    (IfOk-weaker call.result _ _
    (λ goes h. over_mapped update_step map_step m.Update (λ s w. refl) goes c.in-Update.state call.new.self c.args.word.now c.args.unread.now call.new.unread h) call.ensures.goes_on)

pub returns-in-Key-clause-goes_on : goal.returns-in-Key-clause-goes_on
returns-in-Key-clause-goes_on c =
    let call = c.go_on-in-Key in
    subst (λ s. IfOk call.result (λ goes. GoesOver map_step goes s c.args.word.now c.args.unread.now (m.Key call.new.self) call.new.unread)) (sym c.in-Key.is)
    (IfOk-weaker call.result _ _
    (λ goes h. over_mapped key_step map_step m.Key (λ s w. refl) goes c.in-Key.state call.new.self c.args.word.now c.args.unread.now call.new.unread h) call.ensures.goes_on)

pub returns-in-Push-clause-goes_on : goal.returns-in-Push-clause-goes_on
returns-in-Push-clause-goes_on c =
    let call = c.go_on-in-Push in
    subst (λ s. IfOk call.result (λ goes. GoesOver map_step goes s c.args.word.now c.args.unread.now (m.Push call.new.self) call.new.unread)) (sym c.in-Push.is)
    (IfOk-weaker call.result _ _
    (λ goes h. over_mapped push_step map_step m.Push (λ s w. refl) goes c.in-Push.state call.new.self c.args.word.now c.args.unread.now call.new.unread h) call.ensures.goes_on)

pub returns-in-Whole-clause-goes_on : goal.returns-in-Whole-clause-goes_on
returns-in-Whole-clause-goes_on c =
    let call = c.go_on-in-Whole in
    subst (λ s. GoesOver map_step call.result s c.args.word.now c.args.unread.now (m.Whole call.new.self) c.args.unread.now) (sym c.in-Whole.is)
    (goes_mapped whole_step map_step m.Whole (λ s w. refl) call.result c.in-Whole.state call.new.self c.args.word.now c.args.unread.now call.ensures)

pub returns-in-Pin-clause-goes_on : goal.returns-in-Pin-clause-goes_on
returns-in-Pin-clause-goes_on c =
    let call = c.go_on-in-Pin in
    subst (λ s. GoesOver map_step call.result s c.args.word.now c.args.unread.now (m.Pin call.new.self) c.args.unread.now) (sym c.in-Pin.is)
    (goes_mapped pin_step map_step m.Pin (λ s w. refl) call.result c.in-Pin.state call.new.self c.args.word.now c.args.unread.now call.ensures)
