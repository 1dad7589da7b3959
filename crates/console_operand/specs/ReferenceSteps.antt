-- References read a word at a time.
use Rattle.std.specs.Prelude.{ℕ, List, [], ◌∷◌, Option, Some, codes}
use Rattle.std.specs.Option.{option_map}
use Rattle.console_operand.specs.Word.{spelled_by}
use Rattle.console_operand.specs.Number.{number_of}
use Rattle.console_operand.specs.declared.reference.Reference.TheVariants as reference
use Rattle.console_operand.specs.declared.reference.Form.{Form}
use Rattle.console_operand.specs.declared.reference.Form.TheVariants as form
use Rattle.console_operand.specs.declared.reference.Naming.{Naming}
use Rattle.console_operand.specs.declared.reference.Naming.TheVariants as n
use Rattle.console_operand.specs.declared.reference.Named.{Named}
use Rattle.console_operand.specs.declared.reference.Named.TheVariants as named

abbrev pub form_word : Form → List ℕ
form_word form.Id = codes "id"
form_word form.Pinned = codes "pinned"
form_word form.Name = codes "name"

abbrev pub forms : List Form
forms = form.Id ∷ form.Pinned ∷ form.Name ∷ []

-- what one more word makes of a reference
abbrev pub naming_step : Naming → List ℕ → Option Named
naming_step n.Form word = option_map (λ f. named.Going (n.Object f)) (spelled_by form_word forms word)
naming_step (n.Object form.Id) word = option_map (λ number. named.Found (reference.Id number)) (number_of word)
naming_step (n.Object form.Pinned) word = Some (named.Found (reference.Pinned word))
naming_step (n.Object form.Name) word = Some (named.Found (reference.Named word))
