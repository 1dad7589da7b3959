-- A command on a whole map: what is spelled is read, what is read is spelled, and each state can be gone on with.
use Rattle.std.proofs.Common.{◌≡◌, ℕ, List, [], ◌∷◌, ◌++◌, refl, sym, subst, Option, Some, IsSome}
use Rattle.std.specs.Prelude.{codes}
use Rattle.std.proofs.lemmas.List.{append-nil}
use Rattle.console_operand.specs.Automaton.{read}
use Rattle.console_operand.specs.Reference.{IsReference, id, pinned, named}
use Rattle.console_map_syntax.specs.MapGrammar.{SpellsMap}
use Rattle.console_map_syntax.specs.WholeSteps.{without_map, of_map, named_whole, whole_step, whole_finish}
use Rattle.console_operand.specs.declared.reference.Reference.{Reference}
use Rattle.console_operand.specs.declared.reference.Form.TheVariants as form
use Rattle.console_operand.specs.declared.reference.Naming.TheVariants as n
use Rattle.console_map_syntax.specs.declared.command.MapCommand.{MapCommand}
use Rattle.console_map_syntax.specs.declared.whole.WholeVerb.{WholeVerb}
use Rattle.console_map_syntax.specs.declared.whole.WholeState.{WholeState}
use Rattle.console_map_syntax.specs.declared.whole.WholeState.TheVariants as w
use Rattle.console_operand.proofs.ReferenceRead.{reference_read, reference_spelled, naming_end}

abbrev reads : WholeState → List (List ℕ) → Option MapCommand
reads state words = read whole_step whole_finish state words

pub whole_read : (v : WholeVerb) {name : List (List ℕ)} {map : Reference (List ℕ)} → IsReference name map → reads (w.Bare v) name ≡ Some (of_map v map)
whole_read v (id {word} {number} e) = reference_read whole_step whole_finish (named_whole v) (λ naming w. refl) (id {word = word} {number = number} e) []
whole_read v (pinned {path}) = refl
whole_read v (named {name}) = refl

-- from what the grammar says of a verb
module _ (v : WholeVerb) (verb : List ℕ)
    (bare : (command : MapCommand) → without_map v ≡ Some command → SpellsMap (verb ∷ []) command)
    (given : (name : List (List ℕ)) (map : Reference (List ℕ)) → IsReference name map → SpellsMap (verb ∷ name) (of_map v map)) where
  -- nothing comes after the map
  behind_map : (name words : List (List ℕ)) (map : Reference (List ℕ)) (command : MapCommand) → IsReference name map → reads (w.Given v map) words ≡ Some command → SpellsMap (verb ∷ (name ++ words)) command
  behind_map name [] map command it h =
      let is : of_map v map ≡ command = cc in
      subst (λ all. SpellsMap (verb ∷ all) command) (sym (append-nil name)) (subst (SpellsMap (verb ∷ name)) is (given name map it))
  behind_map name (word ∷ words) map command it h = cc

  pub whole_spelled : (words : List (List ℕ)) (command : MapCommand) → reads (w.Bare v) words ≡ Some command → SpellsMap (verb ∷ words) command
  whole_spelled [] command h = bare command h
  whole_spelled (word ∷ words) command h =
      let it = reference_spelled whole_step whole_finish (named_whole v) (λ naming word. refl) (λ naming. refl) (word ∷ words) command h in
      subst (λ all. SpellsMap (verb ∷ all) command) (sym it.cut) (behind_map it.name it.rest it.map command it.is it.behind)

abbrev pub whole_end : WholeState → List (List ℕ)
whole_end (w.Bare v) = codes "id" ∷ codes "1" ∷ []
whole_end (w.Map v naming) = naming_end naming
whole_end (w.Given v map) = []

pub whole_ends : (state : WholeState) → IsSome (reads state (whole_end state))
whole_ends (w.Bare v) = refl
whole_ends (w.Map v n.Form) = refl
whole_ends (w.Map v (n.Object form.Id)) = refl
whole_ends (w.Map v (n.Object form.Pinned)) = refl
whole_ends (w.Map v (n.Object form.Name)) = refl
whole_ends (w.Given v map) = refl
