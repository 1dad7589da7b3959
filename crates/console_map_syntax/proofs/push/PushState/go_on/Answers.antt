use Rattle.std.proofs.Common.{◌≡◌, ℕ, List, sym, subst, IfOk, refl}
use Rattle.std.proofs.lemmas.Result.{IfOk-weaker}
use Rattle.console_operand.specs.Automaton.{GoesOn, GoesOver}
use Rattle.console_operand.specs.ValueSteps.{value_step}
use Rattle.console_map_syntax.specs.PushSteps.{front_step, push_step}
use Rattle.console_operand.specs.declared.reference.Reference.{Reference}
use Rattle.console_operand.specs.declared.value.ValueState.{ValueState}
use Rattle.console_map_syntax.specs.declared.push.PushState.{PushState}
use Rattle.console_map_syntax.specs.declared.push.PushState.TheVariants as p
use Rattle.console_operand.proofs.OverRead.{over_mapped, goes_one}
use Rattle.console_map_syntax.proofs.push.PushState.go_on.Goals as goal

pub returns-in-Value-clause-goes_on : goal.returns-in-Value-clause-goes_on
returns-in-Value-clause-goes_on c =
    let at = p.Value c.in-Value.field-0 in
    subst (λ s. IfOk c.go_on.result (λ goes. GoesOver push_step goes s c.args.word.now c.args.unread.now (at c.go_on.new.self) c.go_on.new.unread)) (sym c.in-Value.is)
    (IfOk-weaker c.go_on.result _ _
    (λ goes h. over_mapped value_step push_step at (λ d w. refl) goes c.in-Value.read c.go_on.new.self c.args.word.now c.args.unread.now c.go_on.new.unread h) c.go_on.ensures.goes_on)

-- what is no value goes on by one word
front_is : (s : PushState) (w : List ℕ) → ((map : Reference (List ℕ)) (read : ValueState) → s ≡ p.Value map read → ⊥) → front_step s w ≡ push_step s w
front_is (p.Map n) w other = refl
front_is (p.Given map) w other = refl
front_is (p.Value map read) w other = absurd (other map read refl)

pub returns-in_default-clause-goes_on : goal.returns-in_default-clause-goes_on
returns-in_default-clause-goes_on c =
    goes_one push_step c.begin.result c.args.self.now c.begin.new.self c.args.word.now c.args.unread.now
    (subst (λ next. GoesOn c.begin.result next c.begin.new.self) (front_is c.args.self.now c.args.word.now c.in_default.not-Value) c.begin.ensures)
