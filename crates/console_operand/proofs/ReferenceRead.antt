-- References: what is spelled is read, and what is read is spelled, within any automaton that goes on after them.
use Rattle.std.proofs.Common.{◌≡◌, ℕ, List, [], ◌∷◌, ◌++◌, refl, sym, ◌∙◌, ap, subst, Option, Some, None}
use Rattle.std.specs.Prelude.{codes}
use Rattle.std.specs.Option.{option_map, option_and_then}
use Rattle.console_operand.specs.Word.{spelled_by}
use Rattle.console_operand.specs.Number.{number_of}
use Rattle.console_operand.specs.Automaton.{read}
use Rattle.console_operand.specs.Reference.{IsReference, id, pinned, named}
use Rattle.console_operand.specs.ReferenceSteps.{form_word, forms, naming_step}
use Rattle.console_operand.specs.declared.reference.Reference.{Reference}
use Rattle.console_operand.specs.declared.reference.Reference.TheVariants as reference
use Rattle.console_operand.specs.declared.reference.Form.{Form}
use Rattle.console_operand.specs.declared.reference.Form.TheVariants as form
use Rattle.console_operand.specs.declared.reference.Naming.{Naming}
use Rattle.console_operand.specs.declared.reference.Naming.TheVariants as n
use Rattle.console_operand.specs.declared.reference.Named.{Named}
use Rattle.console_operand.specs.declared.reference.Named.TheVariants as come
use Rattle.console_operand.proofs.Reading.{spelled_is, gone_on_by, map_some}

-- the words of a reference, and what comes after them
pub record Refers (words : List (List ℕ)) (P : Reference (List ℕ) → List (List ℕ) → Type 0) : Type 0 where
  pub name : List (List ℕ)
  pub rest : List (List ℕ)
  pub map : Reference (List ℕ)
  pub cut : words ≡ name ++ rest
  pub is : IsReference name map
  pub behind : P map rest

-- words that complete a reference
abbrev pub naming_end : Naming → List (List ℕ)
naming_end n.Form = codes "id" ∷ codes "1" ∷ []
naming_end (n.Object f) = codes "1" ∷ []

module _ {S C : Type 0} (step : S → List ℕ → Option S) (finish : S → Option C) (from : Named → S)
    (steps : (naming : Naming) (word : List ℕ) → step (from (come.Going naming)) word ≡ option_map from (naming_step naming word)) where
  abbrev reads : Named → List (List ℕ) → Option C
  reads state words = read step finish (from state) words

  pub reference_read : {name : List (List ℕ)} {map : Reference (List ℕ)} → IsReference name map → (rest : List (List ℕ)) →
      reads (come.Going n.Form) (name ++ rest) ≡ reads (come.Found map) rest
  reference_read (id {word} {number} e) rest =
      ap (option_and_then (λ next. read step finish next (word ∷ rest))) (steps n.Form (codes "id"))
      ∙ ap (option_and_then (λ next. read step finish next rest)) (steps (n.Object form.Id) word)
      ∙ ap (λ o. option_and_then (λ next. read step finish next rest) (option_map from (option_map (λ number. come.Found (reference.Id number)) o))) e
  reference_read (pinned {path}) rest =
      ap (option_and_then (λ next. read step finish next (path ∷ rest))) (steps n.Form (codes "pinned"))
      ∙ ap (option_and_then (λ next. read step finish next rest)) (steps (n.Object form.Pinned) path)
  reference_read (named {name}) rest =
      ap (option_and_then (λ next. read step finish next (name ∷ rest))) (steps n.Form (codes "name"))
      ∙ ap (option_and_then (λ next. read step finish next rest)) (steps (n.Object form.Name) name)

  abbrev Behind : List (List ℕ) → C → Type 0
  Behind words c = Refers words (λ map rest. reads (come.Found map) rest ≡ Some c)

  -- the word after `id`
  id_spelled : (word : List ℕ) (words : List (List ℕ)) (c : C) → reads (come.Going (n.Object form.Id)) (word ∷ words) ≡ Some c → Behind (codes "id" ∷ word ∷ words) c
  id_spelled word words c h =
      gone_on_by (naming_step (n.Object form.Id) word) from (λ next. read step finish next words) c (λ state at more.
      map_some (number_of word) (λ number. come.Found (reference.Id number)) state (λ number e is. record {
        name = codes "id" ∷ word ∷ [];
        rest = words;
        map = reference.Id number;
        cut = refl;
        is = id e;
        behind = subst (λ s. reads s words ≡ Some c) (sym is) more;
      }) at) (subst (λ o. option_and_then (λ next. read step finish next words) o ≡ Some c) (steps (n.Object form.Id) word) h)

  -- the word after `pinned`
  pinned_spelled : (path : List ℕ) (words : List (List ℕ)) (c : C) → reads (come.Going (n.Object form.Pinned)) (path ∷ words) ≡ Some c → Behind (codes "pinned" ∷ path ∷ words) c
  pinned_spelled path words c h = record {
    name = codes "pinned" ∷ path ∷ [];
    rest = words;
    map = reference.Pinned path;
    cut = refl;
    is = pinned;
    behind = sym (ap (option_and_then (λ next. read step finish next words)) (steps (n.Object form.Pinned) path)) ∙ h;
  }

  -- the word after `name`
  named_spelled : (name : List ℕ) (words : List (List ℕ)) (c : C) → reads (come.Going (n.Object form.Name)) (name ∷ words) ≡ Some c → Behind (codes "name" ∷ name ∷ words) c
  named_spelled name words c h = record {
    name = codes "name" ∷ name ∷ [];
    rest = words;
    map = reference.Named name;
    cut = refl;
    is = named;
    behind = sym (ap (option_and_then (λ next. read step finish next words)) (steps (n.Object form.Name) name)) ∙ h;
  }

  module _ (ends : (naming : Naming) → finish (from (come.Going naming)) ≡ None) where
    form_spelled : (f : Form) (words : List (List ℕ)) (c : C) → reads (come.Going (n.Object f)) words ≡ Some c → Behind (form_word f ∷ words) c
    form_spelled f [] c h = let none = ends (n.Object f) in cc
    form_spelled form.Id (word ∷ words) c h = id_spelled word words c h
    form_spelled form.Pinned (word ∷ words) c h = pinned_spelled word words c h
    form_spelled form.Name (word ∷ words) c h = named_spelled word words c h

    pub reference_spelled : (words : List (List ℕ)) (c : C) → reads (come.Going n.Form) words ≡ Some c → Behind words c
    reference_spelled [] c h = let none = ends n.Form in cc
    reference_spelled (word ∷ words) c h =
        gone_on_by (naming_step n.Form word) from (λ next. read step finish next words) c (λ state at more.
        map_some (spelled_by form_word forms word) (λ f. come.Going (n.Object f)) state (λ f e is.
        subst (λ first. Behind (first ∷ words) c) (sym (spelled_is form_word forms word f e))
        (form_spelled f words c (subst (λ s. reads s words ≡ Some c) (sym is) more))) at)
        (subst (λ o. option_and_then (λ next. read step finish next words) o ≡ Some c) (steps n.Form word) h)
