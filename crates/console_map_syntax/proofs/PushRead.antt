-- A command that pushes a value: what is spelled is read, what is read is spelled, and each state can be gone on with.
use Rattle.std.proofs.Common.{◌≡◌, ℕ, true, false, cond, List, [], ◌∷◌, ◌++◌, refl, sym, ◌∙◌, ap, subst, Option, Some, None, IsSome}
use Rattle.std.specs.Prelude.{codes}
use Rattle.std.specs.Option.{option_map, option_and_then}
use Rattle.std.specs.Str.{bytes_eq}
use Rattle.std.proofs.lemmas.List.{append-nil}
use Rattle.std.proofs.lemmas.Slice.Eq.{bytes_eq-Decides}
use Rattle.console_operand.specs.Automaton.{read, Leads}
use Rattle.console_operand.specs.Reference.{IsReference}
use Rattle.console_operand.specs.Value.{IsValue}
use Rattle.console_operand.specs.ValueSteps.{value_step, value_finish}
use Rattle.console_map_syntax.specs.MapGrammar.{SpellsMap}
use Rattle.console_map_syntax.specs.PushSteps.{named_pushing, push_step, push_finish}
use Rattle.console_operand.specs.declared.reference.Reference.{Reference}
use Rattle.console_operand.specs.declared.reference.Form.TheVariants as form
use Rattle.console_operand.specs.declared.reference.Naming.TheVariants as n
use Rattle.console_operand.specs.declared.value.Value.{Value}
use Rattle.console_operand.specs.declared.value.ValueState.{ValueState}
use Rattle.console_operand.specs.declared.value.ValueState.TheVariants.{First}
use Rattle.console_map_syntax.specs.declared.command.MapCommand.{MapCommand}
use Rattle.console_map_syntax.specs.declared.command.MapCommand.TheVariants as m
use Rattle.console_map_syntax.specs.declared.push.PushState.{PushState}
use Rattle.console_map_syntax.specs.declared.push.PushState.TheVariants as p
use Rattle.console_operand.proofs.PartRead.{part_read, part_spelled, alone, never, as_map}
use Rattle.console_operand.proofs.ValueRead.{value_leads, leads_value, value_end, value_completes}
use Rattle.console_operand.proofs.ReferenceRead.{reference_read, reference_spelled, naming_end}

abbrev reads : PushState → List (List ℕ) → Option MapCommand
reads state words = read push_step push_finish state words

-- the value ends the line
abbrev no_next : Value (List ℕ) → List ℕ → Option PushState
no_next it word = None

abbrev pushed : Reference (List ℕ) → Value (List ℕ) → Option MapCommand
pushed map it = Some (m.Push map it)

-- words that lead through a value are read
through_value : (map : Reference (List ℕ)) (words : List (List ℕ)) (s end : ValueState) (it : Value (List ℕ)) → Leads value_step s words end → value_finish end ≡ Some it →
    reads (p.Value map s) words ≡ Some (m.Push map it)
through_value map words s end it leads is =
    ap (reads (p.Value map s)) (sym (append-nil words))
    ∙ part_read value_step value_finish push_step push_finish no_next (pushed map) (p.Value map) (λ s more w e. ap (option_map (p.Value map)) e)
    (λ s w e. ap (option_map (p.Value map)) e ∙ sym (never (value_finish s))) (λ s. as_map (m.Push map) (value_finish s)) words [] s end it leads is tt

pub push_read : {name words : List (List ℕ)} {map : Reference (List ℕ)} {it : Value (List ℕ)} → IsReference name map → IsValue words it →
    reads (p.Map n.Form) (name ++ codes "value" ∷ words) ≡ Some (m.Push map it)
push_read {words = words} {map} {it} name given =
    let (end, leads, is) = value_leads given in
    reference_read push_step push_finish named_pushing (λ naming w. refl) name (codes "value" ∷ words) ∙ through_value map words First end it leads is

-- what is read after `value` is VALUE
value_taken : (map : Reference (List ℕ)) (words : List (List ℕ)) (command : MapCommand) → reads (p.Value map First) words ≡ Some command →
    (it : Value (List ℕ)) × IsValue words it × (m.Push map it ≡ command)
value_taken map words command h =
    let it = part_spelled value_step value_finish push_step push_finish no_next (pushed map) (p.Value map) (λ s more w e. ap (option_map (p.Value map)) e)
    (λ s w e. ap (option_map (p.Value map)) e ∙ sym (never (value_finish s))) (λ s. as_map (m.Push map) (value_finish s)) words First command h in
    let (nothing, is) = alone value_step value_finish push_step push_finish no_next (pushed map) (λ value word. refl) it.value it.rest command it.behind in
    let all : words ≡ it.front = it.cut ∙ ap (λ r. it.front ++ r) nothing ∙ append-nil it.front in
    (it.value, subst (λ ws. IsValue ws it.value) (sym all) (leads_value it.front it.end it.value it.leads it.is), cc)

-- from what the grammar says of the word
module _ (word : List ℕ)
    (given : (name words : List (List ℕ)) (map : Reference (List ℕ)) (it : Value (List ℕ)) → IsReference name map → IsValue words it →
    SpellsMap (word ∷ (name ++ codes "value" ∷ words)) (m.Push map it)) where
  -- what comes after the map
  behind_map : (name words : List (List ℕ)) (map : Reference (List ℕ)) (command : MapCommand) → IsReference name map → reads (p.Given map) words ≡ Some command →
      SpellsMap (word ∷ (name ++ words)) command
  behind_map name [] map command it h = cc
  behind_map name (first ∷ words) map command it h =
      elim (bytes_eq first (codes "value")) as (λ b. bytes_eq first (codes "value") ≡ b →
      option_and_then (λ next. reads next words) (cond b (Some (p.Value map First)) None) ≡ Some command → SpellsMap (word ∷ (name ++ first ∷ words)) command) [
        | true ↦ λ same e.
            let (pushed, value_is, is) = value_taken map words command e in
            subst (λ w. SpellsMap (word ∷ (name ++ w ∷ words)) command) (sym ((bytes_eq-Decides first (codes "value")).0 same))
            (subst (SpellsMap (word ∷ (name ++ codes "value" ∷ words))) is (given name words map pushed it value_is))
        | false ↦ λ _ e. cc
      ] refl h

  pub push_spelled : (words : List (List ℕ)) (command : MapCommand) → reads (p.Map n.Form) words ≡ Some command → SpellsMap (word ∷ words) command
  push_spelled words command h =
      let it = reference_spelled push_step push_finish named_pushing (λ naming w. refl) (λ naming. refl) words command h in
      subst (λ all. SpellsMap (word ∷ all) command) (sym it.cut) (behind_map it.name it.rest it.map command it.is it.behind)

abbrev given_end : List (List ℕ)
given_end = codes "value" ∷ codes "0" ∷ []

abbrev pub push_end : PushState → List (List ℕ)
push_end (p.Map naming) = naming_end naming ++ given_end
push_end (p.Given map) = given_end
push_end (p.Value map s) = value_end s

pub push_ends : (state : PushState) → IsSome (reads state (push_end state))
push_ends (p.Map n.Form) = refl
push_ends (p.Map (n.Object form.Id)) = refl
push_ends (p.Map (n.Object form.Pinned)) = refl
push_ends (p.Map (n.Object form.Name)) = refl
push_ends (p.Given map) = refl
push_ends (p.Value map s) =
    let (end, it, leads, is) = value_completes s in
    subst (λ o. IsSome o) (sym (through_value map (value_end s) s end it leads is)) refl
