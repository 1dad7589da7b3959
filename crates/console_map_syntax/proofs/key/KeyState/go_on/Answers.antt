use Rattle.std.proofs.Common.{◌≡◌, ℕ, List, sym, subst, IfOk, refl}
use Rattle.std.proofs.lemmas.Result.{IfOk-weaker}
use Rattle.console_operand.specs.Automaton.{GoesOn, GoesOver}
use Rattle.console_operand.specs.DataSteps.{data_step}
use Rattle.console_map_syntax.specs.KeySteps.{front_step, key_step}
use Rattle.console_operand.specs.declared.data_words.Data.{Data}
use Rattle.console_operand.specs.declared.reference.Reference.{Reference}
use Rattle.console_map_syntax.specs.declared.key.KeyVerb.{KeyVerb}
use Rattle.console_map_syntax.specs.declared.key.KeyState.{KeyState}
use Rattle.console_map_syntax.specs.declared.key.KeyState.TheVariants as k
use Rattle.console_operand.proofs.OverRead.{over_mapped, goes_one}
use Rattle.console_map_syntax.proofs.key.KeyState.go_on.Goals as goal

pub returns-in-Key-clause-goes_on : goal.returns-in-Key-clause-goes_on
returns-in-Key-clause-goes_on c =
    let at = k.Key c.in-Key.field-0 c.in-Key.field-1 in
    subst (λ s. IfOk c.go_on.result (λ goes. GoesOver key_step goes s c.args.word.now c.args.unread.now (at c.go_on.new.self) c.go_on.new.unread)) (sym c.in-Key.is)
    (IfOk-weaker c.go_on.result _ _
    (λ goes h. over_mapped data_step key_step at (λ d w. refl) goes c.in-Key.read c.go_on.new.self c.args.word.now c.args.unread.now c.go_on.new.unread h) c.go_on.ensures.goes_on)

-- what is no key goes on by one word
front_is : (s : KeyState) (w : List ℕ) → ((v : KeyVerb) (map : Reference (List ℕ)) (d : Data) → s ≡ k.Key v map d → ⊥) → front_step s w ≡ key_step s w
front_is (k.Map v n) w other = refl
front_is (k.Given v map) w other = refl
front_is (k.Key v map d) w other = absurd (other v map d refl)

pub returns-in_default-clause-goes_on : goal.returns-in_default-clause-goes_on
returns-in_default-clause-goes_on c =
    goes_one key_step c.begin.result c.args.self.now c.begin.new.self c.args.word.now c.args.unread.now
    (subst (λ next. GoesOn c.begin.result next c.begin.new.self) (front_is c.args.self.now c.args.word.now c.in_default.not-Key) c.begin.ensures)
