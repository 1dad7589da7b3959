use Rattle.std.proofs.Common.{◌≡◌, ℕ, List, Bool, true, false, refl, sym, ◌∙◌, ap, subst, Some, None, ◌⊎◌, inl, inr}
use Rattle.std.specs.Option.{option_map, option_and_then}
use Rattle.std.proofs.lemmas.Result.{IfOk-weaker}
use Rattle.console_operand.specs.Word.{spelled_by}
use Rattle.console_operand.specs.Automaton.{Reading, Takes, GoesOver}
use Rattle.console_operand.specs.declared.reference.Form.TheVariants as form
use Rattle.console_operand.specs.declared.reference.Naming.TheVariants as n
use Rattle.console_operand.specs.declared.value.ValueState.TheVariants as v
use Rattle.console_map_syntax.specs.UpdateSteps.{update_word, update_words, behind, at, given_step, part_step, takes_any_word, closed, turned, going_step, update_step}
use Rattle.console_map_syntax.specs.declared.command.UpdateFlag.TheVariants as fl
use Rattle.console_map_syntax.specs.declared.update.Giving.{Giving}
use Rattle.console_map_syntax.specs.declared.update.UpdateWord.{UpdateWord}
use Rattle.console_map_syntax.specs.declared.update.UpdateWord.TheVariants as u
use Rattle.console_map_syntax.specs.declared.update.UpdatePart.{UpdatePart}
use Rattle.console_map_syntax.specs.declared.update.UpdatePart.TheVariants as part
use Rattle.console_map_syntax.specs.declared.update.UpdateState.TheVariants.{Given}
use Rattle.console_operand.proofs.OverRead.{over_within, takes_within}
use Rattle.console_operand.proofs.PartRead.{never}
use Rattle.console_operand.proofs.Reading.{spelled_is}
use Rattle.console_map_syntax.proofs.UpdateRead.{update_word_ends}
use Rattle.console_map_syntax.proofs.update.Giving.go_on.Goals as goal
use Rattle.console_map_syntax.proofs.update.Giving.go_on.Goals.{in_default-via-in-Some+else-not-takes_any_word, in_default-via-in_default}

-- a word that begins a part is none of the part before it, save where any word may come next
part_over : (p : UpdatePart) (it : UpdateWord) → takes_any_word p ≡ false → part_step p (update_word it) ≡ None
part_over part.Nothing it h = refl
part_over (part.Key d) it h = ap (option_map part.Key) (update_word_ends it d)
part_over (part.Value (v.Data d)) it h = ap (λ o. option_map part.Value (option_map v.Data o)) (update_word_ends it d)
part_over (part.Value v.First) u.Key h = refl
part_over (part.Value v.First) u.Value h = refl
part_over (part.Value v.First) (u.Flag fl.Any) h = refl
part_over (part.Value v.First) (u.Flag fl.Exist) h = refl
part_over (part.Value v.First) (u.Flag fl.NoExist) h = refl
part_over (part.Value (v.Object n.Form)) u.Key h = refl
part_over (part.Value (v.Object n.Form)) u.Value h = refl
part_over (part.Value (v.Object n.Form)) (u.Flag fl.Any) h = refl
part_over (part.Value (v.Object n.Form)) (u.Flag fl.Exist) h = refl
part_over (part.Value (v.Object n.Form)) (u.Flag fl.NoExist) h = refl
part_over (part.Value (v.Object (n.Object form.Id))) u.Key h = refl
part_over (part.Value (v.Object (n.Object form.Id))) u.Value h = refl
part_over (part.Value (v.Object (n.Object form.Id))) (u.Flag fl.Any) h = refl
part_over (part.Value (v.Object (n.Object form.Id))) (u.Flag fl.Exist) h = refl
part_over (part.Value (v.Object (n.Object form.Id))) (u.Flag fl.NoExist) h = refl
part_over (part.Value (v.Object (n.Object form.Pinned))) it h = cc
part_over (part.Value (v.Object (n.Object form.Name))) it h = cc
part_over (part.Value (v.Found found)) it h = refl

-- so it ends that part
turns : (g : Giving) (w : List ℕ) (it : UpdateWord) → spelled_by update_word update_words w ≡ Some it → takes_any_word g.part ≡ false → turned g it ≡ update_step (Given g) w
turns g w it e ends =
    let none : part_step g.part w ≡ None = subst (λ x. part_step g.part x ≡ None) (sym (spelled_is update_word update_words w it e)) (part_over g.part it ends) in
    sym (ap (going_step g w) none ∙ ap (λ o. option_and_then (λ x. option_and_then (given_step x) o) (closed g)) e)

-- and what comes after that is read at once
turned_on : (g mid : Giving) (w : List ℕ) (it : UpdateWord) (before after : Reading) (new : UpdatePart) → turned g it ≡ update_step (Given g) w → turned g it ≡ Some (Given mid) →
    Takes part_step mid.part before new after → GoesOver update_step true (Given g) w before (at mid.given new) after
turned_on g mid w it before after new next turn taken =
    (Given mid, sym next ∙ turn, takes_within part_step update_step (at mid.given) (λ p more w e. ap (going_step (behind mid.given p) w) e) mid.part new before after taken)

pub returns-then-not-turn-clause-goes_on : goal.returns-then-not-turn-clause-goes_on
returns-then-not-turn-clause-goes_on c =
    let next = turns c.args.self.now c.args.word.now c.in-Some.next (sym c.of.ensures ∙ c.in-Some.is) (sym c.takes_any_word.ensures ∙ c.if-not-takes_any_word.true) in
    sym next ∙ c.if-not-turn.ensures

pub returns-in_ok-take-in-Some-clause-goes_on : goal.returns-in_ok-take-in-Some-clause-goes_on
returns-in_ok-take-in-Some-clause-goes_on c =
    let g : Giving = c.args.self.now in
    let next = turns g c.args.word.now c.in-Some.next (sym c.of.ensures ∙ c.in-Some.is) (sym c.takes_any_word.ensures ∙ c.if-not-takes_any_word.true) in
    turned_on g c.turn.new.self c.args.word.now c.in-Some.next c.args.unread.now c.take.new.unread c.take.new.self next c.if-not-turn.ensures c.in_ok-take-in-Some.ensures

-- if any word may come next, any is taken
any_goes : (p : UpdatePart) (w : List ℕ) → takes_any_word p ≡ true → part_step p w ≡ None → ⊥
any_goes part.Nothing w h none = cc
any_goes (part.Key d) w h none = cc
any_goes (part.Value v.First) w h none = cc
any_goes (part.Value (v.Data d)) w h none = cc
any_goes (part.Value (v.Object n.Form)) w h none = cc
any_goes (part.Value (v.Object (n.Object form.Id))) w h none = cc
any_goes (part.Value (v.Object (n.Object form.Pinned))) w h none = cc
any_goes (part.Value (v.Object (n.Object form.Name))) w h none = cc
any_goes (part.Value (v.Found found)) w h none = cc

-- no other word turns to what comes next
part_goes : (g : Giving) (w : List ℕ) (goes : Bool) (before after : Reading) (new : UpdatePart) → (spelled_by update_word update_words w ≡ None) ⊎ (takes_any_word g.part ≡ true) →
    GoesOver part_step goes g.part w before new after → GoesOver update_step goes (Given g) w before (at g.given new) after
part_goes g w true before after new by h = over_within part_step update_step (at g.given) (λ p more w e. ap (going_step (behind g.given p) w) e) g.part new w before after h
part_goes g w false before after new (inl none) h =
    ap (going_step g w) h ∙ ap (λ o. option_and_then (λ x. option_and_then (given_step x) o) (closed g)) none ∙ never (closed g)
part_goes g w false before after new (inr any) h = absurd (any_goes g.part w any h)

pub returns-in_default-clause-goes_on : goal.returns-in_default-clause-goes_on
returns-in_default-clause-goes_on c =
    let g : Giving = c.args.self.now in
    let word : List ℕ = c.args.word.now in
    let by : (spelled_by update_word update_words word ≡ None) ⊎ (takes_any_word g.part ≡ true) = elim c.in_default.branch [
      | in_default-via-in-Some+else-not-takes_any_word w ↦ inr (sym w.takes_any_word.ensures ∙ w.if-not-takes_any_word.false)
      | in_default-via-in_default w ↦ inl (sym c.of.ensures ∙ w.in_default.is)
    ] in
    IfOk-weaker c.go_on.result _ _ (λ goes h. part_goes g word goes c.args.unread.now c.go_on.new.unread c.go_on.new.self by h) c.go_on.ensures.goes_on
