-- The commands on the journal, as their words spell them.
use Rattle.std.specs.Prelude.{◌≡◌, ℕ, List, [], ◌∷◌, Some, None, codes}
use Rattle.console_operand.specs.Number.{long_number_of}
use Rattle.bt_syntax.specs.declared.journal.JournalCommand.{JournalCommand}
use Rattle.bt_syntax.specs.declared.journal.JournalCommand.TheVariants as command

-- the words after `journal` spell this command
pub data SpellsJournal : List (List ℕ) → JournalCommand → Type 0 where
  mark : {name : List ℕ} → SpellsJournal (codes "mark" ∷ name ∷ []) (command.Mark name)
  undo : SpellsJournal (codes "undo" ∷ []) (command.Undo None)
  undo_to : {name : List ℕ} → SpellsJournal (codes "undo" ∷ name ∷ []) (command.Undo (Some name))
  redo : SpellsJournal (codes "redo" ∷ []) command.Redo
  list : SpellsJournal (codes "list" ∷ []) command.List
  forget : {name : List ℕ} → SpellsJournal (codes "forget" ∷ name ∷ []) (command.Forget name)
  without : {word : List ℕ} {serial : ℕ} → long_number_of word ≡ Some serial → SpellsJournal (codes "without" ∷ word ∷ []) (command.Without serial)
