-- References to maps and programs.
use Rattle.std.specs.Prelude.{◌≡◌, ℕ, List, [], ◌∷◌, Some, codes}
use Rattle.console_operand.specs.Number.{number_of}
use Rattle.console_operand.specs.declared.reference.Reference.{Reference}
use Rattle.console_operand.specs.declared.reference.Reference.TheVariants.{Id, Pinned, Named}

-- the words are this reference
pub data IsReference : List (List ℕ) → Reference (List ℕ) → Type 0 where
  id : {word : List ℕ} {number : ℕ} → number_of word ≡ Some number → IsReference (codes "id" ∷ word ∷ []) (Id number)
  pinned : {path : List ℕ} → IsReference (codes "pinned" ∷ path ∷ []) (Pinned path)
  named : {name : List ℕ} → IsReference (codes "name" ∷ name ∷ []) (Named name)
