-- The commands on programs (bpftool-prog(8)), as their words spell them.
use Rattle.std.specs.Prelude.{◌≡◌, ℕ, List, [], ◌∷◌, ◌++◌, Some, None, codes}
use Rattle.console_operand.specs.Object.{object_of}
use Rattle.console_operand.specs.Reference.{IsReference}
use Rattle.console_operand.specs.declared.reference.Reference.{Reference}
use Rattle.console_operand.specs.declared.object.Object.{Object}
use Rattle.bt_syntax.specs.declared.prog.command.ProgCommand.{ProgCommand}
use Rattle.bt_syntax.specs.declared.prog.command.ProgCommand.TheVariants.{Show, Dump, Pin, Load}

-- the words after `prog` spell this command
pub data SpellsProg : List (List ℕ) → ProgCommand → Type 0 where
  show_all : SpellsProg (codes "show" ∷ []) (Show None)
  list_all : SpellsProg (codes "list" ∷ []) (Show None)
  show : {name : List (List ℕ)} {prog : Reference (List ℕ)} → IsReference name prog → SpellsProg (codes "show" ∷ name) (Show (Some prog))
  list : {name : List (List ℕ)} {prog : Reference (List ℕ)} → IsReference name prog → SpellsProg (codes "list" ∷ name) (Show (Some prog))
  dump : {name : List (List ℕ)} {prog : Reference (List ℕ)} → IsReference name prog → SpellsProg (codes "dump" ∷ codes "xlated" ∷ name) (Dump prog)
  pin : {name : List (List ℕ)} {prog : Reference (List ℕ)} {path : List ℕ} → IsReference name prog →
      SpellsProg (codes "pin" ∷ (name ++ path ∷ [])) (Pin prog path)
  load : {word path : List ℕ} {object : Object} → object_of word ≡ Some object → SpellsProg (codes "load" ∷ word ∷ path ∷ []) (Load object path)
