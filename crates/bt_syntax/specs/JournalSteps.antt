-- The words of a command on the journal, read one at a time.
use Rattle.std.specs.Prelude.{ℕ, List, [], ◌∷◌, Option, Some, None, codes}
use Rattle.std.specs.Option.{option_map}
use Rattle.console_operand.specs.Word.{spelled_by}
use Rattle.console_operand.specs.Number.{long_number_of}
use Rattle.bt_syntax.specs.declared.journal.JournalCommand.{JournalCommand}
use Rattle.bt_syntax.specs.declared.journal.JournalCommand.TheVariants as command
use Rattle.bt_syntax.specs.declared.journal.JournalVerb.{JournalVerb}
use Rattle.bt_syntax.specs.declared.journal.JournalVerb.TheVariants as verb
use Rattle.bt_syntax.specs.declared.journal.JournalState.{JournalState}
use Rattle.bt_syntax.specs.declared.journal.JournalState.TheVariants as j

abbrev pub verb_word : JournalVerb → List ℕ
verb_word verb.Mark = codes "mark"
verb_word verb.Undo = codes "undo"
verb_word verb.Redo = codes "redo"
verb_word verb.List = codes "list"
verb_word verb.Forget = codes "forget"
verb_word verb.Without = codes "without"

abbrev pub verbs : List JournalVerb
verbs = verb.Mark ∷ verb.Undo ∷ verb.Redo ∷ verb.List ∷ verb.Forget ∷ verb.Without ∷ []

-- if nothing more needs to be said
abbrev pub bare_command : JournalVerb → Option JournalCommand
bare_command verb.Mark = None
bare_command verb.Undo = Some (command.Undo None)
bare_command verb.Redo = Some command.Redo
bare_command verb.List = Some command.List
bare_command verb.Forget = None
bare_command verb.Without = None

-- with one more word, a name or a serial
abbrev pub command_with : JournalVerb → List ℕ → Option JournalCommand
command_with verb.Mark w = Some (command.Mark w)
command_with verb.Undo w = Some (command.Undo (Some w))
command_with verb.Redo w = None
command_with verb.List w = None
command_with verb.Forget w = Some (command.Forget w)
command_with verb.Without w = option_map command.Without (long_number_of w)

abbrev pub journal_step : JournalState → List ℕ → Option JournalState
journal_step j.Verb w = option_map j.Bare (spelled_by verb_word verbs w)
journal_step (j.Bare verb) w = option_map j.Done (command_with verb w)
journal_step (j.Done command) w = None

abbrev pub journal_finish : JournalState → Option JournalCommand
journal_finish j.Verb = None
journal_finish (j.Bare verb) = bare_command verb
journal_finish (j.Done command) = Some command
