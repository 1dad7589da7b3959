-- The commands on the journal: what is spelled is read, what is read is spelled, and each state can be gone on with.
use Rattle.std.proofs.Common.{◌≡◌, ℕ, List, [], ◌∷◌, refl, sym, ap, subst, Option, Some, None, IsSome}
use Rattle.std.specs.Prelude.{codes}
use Rattle.std.specs.Option.{option_map, option_and_then}
use Rattle.console_operand.specs.Word.{spelled_by}
use Rattle.console_operand.specs.Number.{long_number_of}
use Rattle.console_operand.specs.Automaton.{read}
use Rattle.bt_syntax.specs.JournalGrammar.{SpellsJournal, mark, undo, undo_to, redo, list, forget, without}
use Rattle.bt_syntax.specs.JournalSteps.{verb_word, verbs, bare_command, command_with, journal_step, journal_finish}
use Rattle.bt_syntax.specs.declared.journal.JournalCommand.{JournalCommand}
use Rattle.bt_syntax.specs.declared.journal.JournalCommand.TheVariants as command
use Rattle.bt_syntax.specs.declared.journal.JournalVerb.{JournalVerb}
use Rattle.bt_syntax.specs.declared.journal.JournalVerb.TheVariants as verb
use Rattle.bt_syntax.specs.declared.journal.JournalState.{JournalState}
use Rattle.bt_syntax.specs.declared.journal.JournalState.TheVariants as j
use Rattle.console_operand.proofs.Reading.{spelled_is, gone_on_by, map_some}
use Rattle.console_operand.proofs.WordsRead.{no_word}

abbrev reads : JournalState → List (List ℕ) → Option JournalCommand
reads state words = read journal_step journal_finish state words

pub journal_read : {words : List (List ℕ)} {command : JournalCommand} → SpellsJournal words command → read journal_step journal_finish j.Verb words ≡ Some command
journal_read mark = refl
journal_read undo = refl
journal_read undo_to = refl
journal_read redo = refl
journal_read list = refl
journal_read forget = refl
journal_read (without is) = ap (λ o. option_and_then (λ next. reads next []) (option_map j.Done (option_map command.Without o))) is

same_some : {A : Type 0} (a b : A) → Some a ≡ Some b → a ≡ b
same_some a b h = cc

bare_spelled : (v : JournalVerb) (it : JournalCommand) → bare_command v ≡ Some it → SpellsJournal (verb_word v ∷ []) it
bare_spelled verb.Mark it h = cc
bare_spelled verb.Undo it h = subst (SpellsJournal (codes "undo" ∷ [])) (same_some (command.Undo None) it h) undo
bare_spelled verb.Redo it h = subst (SpellsJournal (codes "redo" ∷ [])) (same_some command.Redo it h) redo
bare_spelled verb.List it h = subst (SpellsJournal (codes "list" ∷ [])) (same_some command.List it h) list
bare_spelled verb.Forget it h = cc
bare_spelled verb.Without it h = cc

with_spelled : (v : JournalVerb) (word : List ℕ) (it : JournalCommand) → command_with v word ≡ Some it → SpellsJournal (verb_word v ∷ word ∷ []) it
with_spelled verb.Mark word it h = subst (SpellsJournal (codes "mark" ∷ word ∷ [])) (same_some (command.Mark word) it h) mark
with_spelled verb.Undo word it h = subst (SpellsJournal (codes "undo" ∷ word ∷ [])) (same_some (command.Undo (Some word)) it h) undo_to
with_spelled verb.Redo word it h = cc
with_spelled verb.List word it h = cc
with_spelled verb.Forget word it h = subst (SpellsJournal (codes "forget" ∷ word ∷ [])) (same_some (command.Forget word) it h) forget
with_spelled verb.Without word it h =
    map_some (long_number_of word) command.Without it (λ serial e is. subst (SpellsJournal (codes "without" ∷ word ∷ [])) is (without e)) h

verb_spelled : (v : JournalVerb) (words : List (List ℕ)) (it : JournalCommand) → reads (j.Bare v) words ≡ Some it → SpellsJournal (verb_word v ∷ words) it
verb_spelled v [] it h = bare_spelled v it h
verb_spelled v (word ∷ words) it h =
    gone_on_by (command_with v word) j.Done (λ next. reads next words) it (λ found e more.
    let (none, same) = no_word journal_step journal_finish (j.Done found) found words it (λ w. refl) refl more in
    subst (λ ws. SpellsJournal (verb_word v ∷ word ∷ ws) it) (sym none) (subst (SpellsJournal (verb_word v ∷ word ∷ [])) same (with_spelled v word found e))) h

pub journal_spelled : (words : List (List ℕ)) (command : JournalCommand) → read journal_step journal_finish j.Verb words ≡ Some command → SpellsJournal words command
journal_spelled [] it h = cc
journal_spelled (word ∷ words) it h =
    gone_on_by (spelled_by verb_word verbs word) j.Bare (λ next. reads next words) it (λ v at more.
    subst (λ first. SpellsJournal (first ∷ words) it) (sym (spelled_is verb_word verbs word v at)) (verb_spelled v words it more)) h

abbrev bare_end : JournalVerb → List (List ℕ)
bare_end verb.Mark = codes "x" ∷ []
bare_end verb.Undo = []
bare_end verb.Redo = []
bare_end verb.List = []
bare_end verb.Forget = codes "x" ∷ []
bare_end verb.Without = codes "0" ∷ []

abbrev pub journal_end : JournalState → List (List ℕ)
journal_end j.Verb = codes "undo" ∷ []
journal_end (j.Bare v) = bare_end v
journal_end (j.Done command) = []

bare_ends : (v : JournalVerb) → IsSome (read journal_step journal_finish (j.Bare v) (bare_end v))
bare_ends verb.Mark = refl
bare_ends verb.Undo = refl
bare_ends verb.Redo = refl
bare_ends verb.List = refl
bare_ends verb.Forget = refl
bare_ends verb.Without = refl

pub journal_ends : (state : JournalState) → IsSome (read journal_step journal_finish state (journal_end state))
journal_ends j.Verb = refl
journal_ends (j.Bare v) = bare_ends v
journal_ends (j.Done command) = refl
