-- A command on a map and a key: what is spelled is read, what is read is spelled, and each state can be gone on with.
use Rattle.std.proofs.Common.{◌≡◌, ℕ, true, false, cond, List, [], ◌∷◌, ◌++◌, refl, sym, ◌∙◌, ap, subst, Option, Some, None, IsSome}
use Rattle.std.specs.Prelude.{codes}
use Rattle.std.specs.Option.{option_map, option_and_then}
use Rattle.std.specs.Str.{bytes_eq}
use Rattle.std.proofs.lemmas.List.{append-nil}
use Rattle.std.proofs.lemmas.Slice.Eq.{bytes_eq-Decides}
use Rattle.console_operand.specs.Automaton.{read, Leads}
use Rattle.console_operand.specs.Data.{IsData}
use Rattle.console_operand.specs.DataSteps.{no_data, data_step, data_finish}
use Rattle.console_operand.specs.Reference.{IsReference}
use Rattle.console_map_syntax.specs.MapGrammar.{SpellsMap}
use Rattle.console_map_syntax.specs.KeySteps.{without_key, of_key, named_keyed, key_step, key_finish}
use Rattle.console_operand.specs.declared.data_words.Data.{Data}
use Rattle.console_operand.specs.declared.reference.Reference.{Reference}
use Rattle.console_operand.specs.declared.reference.Form.TheVariants as form
use Rattle.console_operand.specs.declared.reference.Naming.TheVariants as n
use Rattle.console_map_syntax.specs.declared.command.MapCommand.{MapCommand}
use Rattle.console_map_syntax.specs.declared.key.KeyVerb.{KeyVerb}
use Rattle.console_map_syntax.specs.declared.key.KeyState.{KeyState}
use Rattle.console_map_syntax.specs.declared.key.KeyState.TheVariants as k
use Rattle.console_operand.proofs.PartRead.{part_read, part_spelled, alone, never, as_map}
use Rattle.console_operand.proofs.DataRead.{data_leads, leads_data, data_end, data_completes}
use Rattle.console_operand.proofs.ReferenceRead.{reference_read, reference_spelled, naming_end}

abbrev reads : KeyState → List (List ℕ) → Option MapCommand
reads state words = read key_step key_finish state words

-- the key ends the line
abbrev no_next : List ℕ → List ℕ → Option KeyState
no_next bytes word = None

abbrev taken : KeyVerb → Reference (List ℕ) → List ℕ → Option MapCommand
taken v map bytes = Some (of_key v map bytes)

pub bare_read : (v : KeyVerb) {name : List (List ℕ)} {map : Reference (List ℕ)} → IsReference name map → reads (k.Map v n.Form) name ≡ without_key v map
bare_read v {name} it = ap (reads (k.Map v n.Form)) (sym (append-nil name)) ∙ reference_read key_step key_finish (named_keyed v) (λ naming w. refl) it []

-- words that lead through a key are read
through_key : (v : KeyVerb) (map : Reference (List ℕ)) (words : List (List ℕ)) (d end : Data) (bytes : List ℕ) → Leads data_step d words end → data_finish end ≡ Some bytes →
    reads (k.Key v map d) words ≡ Some (of_key v map bytes)
through_key v map words d end bytes leads is =
    ap (reads (k.Key v map d)) (sym (append-nil words))
    ∙ part_read data_step data_finish key_step key_finish no_next (taken v map) (k.Key v map) (λ p more w e. ap (option_map (k.Key v map)) e)
    (λ p w e. ap (option_map (k.Key v map)) e ∙ sym (never (data_finish p))) (λ p. as_map (of_key v map) (data_finish p)) words [] d end bytes leads is tt

pub key_read : (v : KeyVerb) {name words : List (List ℕ)} {map : Reference (List ℕ)} {bytes : List ℕ} → IsReference name map → IsData words bytes →
    reads (k.Map v n.Form) (name ++ codes "key" ∷ words) ≡ Some (of_key v map bytes)
key_read v {words = words} {map} {bytes} it given =
    let (end, leads, is) = data_leads given in
    reference_read key_step key_finish (named_keyed v) (λ naming w. refl) it (codes "key" ∷ words) ∙ through_key v map words no_data end bytes leads is

-- what is read after `key` is DATA
data_taken : (v : KeyVerb) (map : Reference (List ℕ)) (words : List (List ℕ)) (command : MapCommand) → reads (k.Key v map no_data) words ≡ Some command →
    (bytes : List ℕ) × IsData words bytes × (of_key v map bytes ≡ command)
data_taken v map words command h =
    let it = part_spelled data_step data_finish key_step key_finish no_next (taken v map) (k.Key v map) (λ p more w e. ap (option_map (k.Key v map)) e)
    (λ p w e. ap (option_map (k.Key v map)) e ∙ sym (never (data_finish p))) (λ p. as_map (of_key v map) (data_finish p)) words no_data command h in
    let (nothing, is) = alone data_step data_finish key_step key_finish no_next (taken v map) (λ value word. refl) it.value it.rest command it.behind in
    let all : words ≡ it.front = it.cut ∙ ap (λ r. it.front ++ r) nothing ∙ append-nil it.front in
    (it.value, subst (λ ws. IsData ws it.value) (sym all) (leads_data it.front it.end it.value it.leads it.is), cc)

-- from what the grammar says of a verb
module _ (v : KeyVerb) (word : List ℕ)
    (bare : (name : List (List ℕ)) (map : Reference (List ℕ)) (command : MapCommand) → IsReference name map → without_key v map ≡ Some command → SpellsMap (word ∷ name) command)
    (given : (name words : List (List ℕ)) (map : Reference (List ℕ)) (bytes : List ℕ) → IsReference name map → IsData words bytes →
    SpellsMap (word ∷ (name ++ codes "key" ∷ words)) (of_key v map bytes)) where
  -- what comes after the map
  behind_map : (name words : List (List ℕ)) (map : Reference (List ℕ)) (command : MapCommand) → IsReference name map → reads (k.Given v map) words ≡ Some command →
      SpellsMap (word ∷ (name ++ words)) command
  behind_map name [] map command it h = subst (λ all. SpellsMap (word ∷ all) command) (sym (append-nil name)) (bare name map command it h)
  behind_map name (first ∷ words) map command it h =
      elim (bytes_eq first (codes "key")) as (λ b. bytes_eq first (codes "key") ≡ b →
      option_and_then (λ next. reads next words) (cond b (Some (k.Key v map no_data)) None) ≡ Some command → SpellsMap (word ∷ (name ++ first ∷ words)) command) [
        | true ↦ λ same e.
            let (bytes, data_is, is) = data_taken v map words command e in
            subst (λ w. SpellsMap (word ∷ (name ++ w ∷ words)) command) (sym ((bytes_eq-Decides first (codes "key")).0 same))
            (subst (SpellsMap (word ∷ (name ++ codes "key" ∷ words))) is (given name words map bytes it data_is))
        | false ↦ λ _ e. cc
      ] refl h

  pub key_spelled : (words : List (List ℕ)) (command : MapCommand) → reads (k.Map v n.Form) words ≡ Some command → SpellsMap (word ∷ words) command
  key_spelled words command h =
      let it = reference_spelled key_step key_finish (named_keyed v) (λ naming w. refl) (λ naming. refl) words command h in
      subst (λ all. SpellsMap (word ∷ all) command) (sym it.cut) (behind_map it.name it.rest it.map command it.is it.behind)

abbrev given_end : List (List ℕ)
given_end = codes "key" ∷ codes "0" ∷ []

abbrev pub key_end : KeyState → List (List ℕ)
key_end (k.Map v naming) = naming_end naming ++ given_end
key_end (k.Given v map) = given_end
key_end (k.Key v map d) = data_end d.bytes

pub key_ends : (state : KeyState) → IsSome (reads state (key_end state))
key_ends (k.Map v n.Form) = refl
key_ends (k.Map v (n.Object form.Id)) = refl
key_ends (k.Map v (n.Object form.Pinned)) = refl
key_ends (k.Map v (n.Object form.Name)) = refl
key_ends (k.Given v map) = refl
key_ends (k.Key v map d) =
    let (end, bytes, leads, is) = data_completes d in
    subst (λ o. IsSome o) (sym (through_key v map (data_end d.bytes) d end bytes leads is)) refl
