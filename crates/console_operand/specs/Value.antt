-- VALUE: DATA, or a reference to the object that a map of ids is to hold.
use Rattle.std.specs.Prelude.{ℕ, List}
use Rattle.console_operand.specs.Data.{IsData}
use Rattle.console_operand.specs.Reference.{IsReference}
use Rattle.console_operand.specs.declared.reference.Reference.{Reference}
use Rattle.console_operand.specs.declared.value.Value.{Value}
use Rattle.console_operand.specs.declared.value.Value.TheVariants.{Data, Object}

-- the words are this value
pub data IsValue : List (List ℕ) → Value (List ℕ) → Type 0 where
  bytes : {words : List (List ℕ)} {given : List ℕ} → IsData words given → IsValue words (Data given)
  object : {words : List (List ℕ)} {named : Reference (List ℕ)} → IsReference words named → IsValue words (Object named)
