-- A line that only a live host has: what is spelled is read, what is read is spelled, and where it goes wrong.
use Rattle.std.proofs.Common.{◌≡◌, ℕ, ◌+◌, ◌-◌, ◌<◌, ◌≤◌, true, false, cond, List, [], ◌∷◌, ◌++◌, length, take, refl, sym, ap, subst, arith, Option, Some, None, Result, Ok, Err}
use Rattle.std.specs.Prelude.{codes, IfOk, IfSome}
use Rattle.std.specs.Str.{bytes_eq}
use Rattle.std.proofs.lemmas.Slice.Eq.{bytes_eq-Decides}
use Rattle.console_operand.specs.Word.{spelled_by}
use Rattle.console_operand.proofs.Reading.{spelled_is}
use Rattle.bt_syntax.specs.Grammar.{Spells, IfAt}
use Rattle.bt_syntax.specs.Grammar as g
use Rattle.bt_syntax.specs.JournalGrammar.{SpellsJournal}
use Rattle.bt_syntax.specs.JournalGrammar as j
use Rattle.bt_syntax.specs.declared.command.Command.{Command}
use Rattle.bt_syntax.specs.declared.journal.JournalCommand.{JournalCommand}
use Rattle.bt_syntax.specs.declared.fault.SyntaxFault.{SyntaxFault}
use Rattle.bt_syntax.specs.declared.fault.SyntaxFault.TheVariants.{At, NoMemory, TooLong}
use Rattle.console_live_words.specs.LiveGrammar.{workers_word, workers_commands, seconds_of, SpellsLive, workers, try, confirm, BeginsLive, IsLiveFault}
use Rattle.console_live_words.specs.LiveLines.{at_word, ended, workers_read, try_read, confirm_read, journal_read, words_read, Answers}
use Rattle.console_live_words.specs.declared.command.LiveCommand.{LiveCommand}
use Rattle.console_live_words.specs.declared.command.LiveCommand.TheVariants.{Workers, Try, Confirm}
use Rattle.console_live_words.specs.declared.command.WorkersCommand.{WorkersCommand}
use Rattle.console_live_words.specs.declared.command.WorkersCommand.TheVariants as w

-- what words come to
abbrev Read : Type 0
Read = Result (Option LiveCommand) SyntaxFault

-- ---- what is spelled is read
asked_is_read : (asked : WorkersCommand) → words_read (codes "workers" ∷ workers_word asked ∷ []) ≡ Ok (Some (Workers asked))
asked_is_read w.Show = refl
asked_is_read w.Stop = refl
asked_is_read w.Go = refl
asked_is_read w.Wait = refl

pub spelled_is_read : {words : List (List ℕ)} {command : LiveCommand} → SpellsLive words command → words_read words ≡ Ok (Some command)
spelled_is_read (workers asked) = asked_is_read asked
spelled_is_read (try {name} is) = ap (λ o. at_word 4 o (λ seconds. ended 5 (Try name seconds) [])) is
spelled_is_read confirm = refl

-- ---- the cases of what is read
-- a word that is one of two, or neither
one_of_two : {R : Type 0} (word one two : List ℕ) (ones twos others read : Read) → (word ≡ one → ones ≡ read → R) → (word ≡ two → twos ≡ read → R) → (others ≡ read → R) →
    cond (bytes_eq word one) ones (cond (bytes_eq word two) twos others) ≡ read → R
one_of_two {R} word one two ones twos others read is_one is_two is_other h =
    elim (bytes_eq word one) as (λ b. bytes_eq word one ≡ b → cond b ones (cond (bytes_eq word two) twos others) ≡ read → R) [
      | true ↦ λ same e. is_one ((bytes_eq-Decides word one).0 same) e
      | false ↦ λ _ e.
          elim (bytes_eq word two) as (λ b. bytes_eq word two ≡ b → cond b twos others ≡ read → R) [
            | true ↦ λ same more. is_two ((bytes_eq-Decides word two).0 same) more
            | false ↦ λ _ more. is_other more
          ] refl e
    ] refl h

-- a word that spells something, or does not
spells_or_not : {A R : Type 0} (k : ℕ) (o : Option A) (behind : A → Read) (read : Read) → (o ≡ None → Err (At k) ≡ read → R) → ((it : A) → o ≡ Some it → behind it ≡ read → R) →
    at_word k o behind ≡ read → R
spells_or_not k None behind read not_spelled spelled h = not_spelled refl h
spells_or_not k (Some it) behind read not_spelled spelled h = spelled it refl h

-- ---- what is read is spelled
-- nothing comes after a command
ended_is : (k : ℕ) (made command : LiveCommand) (words : List (List ℕ)) → ended k made words ≡ Ok (Some command) → (words ≡ []) × (made ≡ command)
ended_is k made command [] h = (refl, cc)
ended_is k made command (word ∷ words) h = cc

-- after words that spell a command with nothing after them
spelled_alone : (front : List (List ℕ) → List (List ℕ)) (k : ℕ) (made command : LiveCommand) (words : List (List ℕ)) → SpellsLive (front []) made → ended k made words ≡ Ok (Some command) →
    SpellsLive (front words) command
spelled_alone front k made command words spelled h =
    let is = ended_is k made command words h in
    subst (λ ws. SpellsLive (front ws) command) (sym is.0) (subst (SpellsLive (front [])) is.1 spelled)

asked_spelled : (word : List ℕ) (asked : WorkersCommand) → spelled_by workers_word workers_commands word ≡ Some asked → SpellsLive (codes "workers" ∷ word ∷ []) (Workers asked)
asked_spelled word asked at = subst (λ it. SpellsLive (codes "workers" ∷ it ∷ []) (Workers asked)) (sym (spelled_is workers_word workers_commands word asked at)) (workers asked)

workers_spelled : (words : List (List ℕ)) (command : LiveCommand) → workers_read words ≡ Ok (Some command) → SpellsLive (codes "workers" ∷ words) command
workers_spelled [] command h = cc
workers_spelled (word ∷ words) command h =
    spells_or_not 2 (spelled_by workers_word workers_commands word) (λ asked. ended 3 (Workers asked) words) (Ok (Some command)) (λ _ e. cc)
    (λ asked at e. spelled_alone (λ ws. codes "workers" ∷ word ∷ ws) 3 (Workers asked) command words (asked_spelled word asked at) e) h

try_spelled : (words : List (List ℕ)) (command : LiveCommand) → try_read words ≡ Ok (Some command) → SpellsLive (codes "journal" ∷ codes "try" ∷ words) command
try_spelled [] command h = cc
try_spelled (name ∷ []) command h = cc
try_spelled (name ∷ word ∷ words) command h =
    spells_or_not 4 (seconds_of word) (λ seconds. ended 5 (Try name seconds) words) (Ok (Some command)) (λ _ e. cc)
    (λ seconds is e. spelled_alone (λ ws. codes "journal" ∷ codes "try" ∷ name ∷ word ∷ ws) 5 (Try name seconds) command words (try is) e) h

confirm_spelled : (words : List (List ℕ)) (command : LiveCommand) → confirm_read words ≡ Ok (Some command) → SpellsLive (codes "journal" ∷ codes "confirm" ∷ words) command
confirm_spelled [] command h = cc
confirm_spelled (name ∷ words) command h = spelled_alone (λ ws. codes "journal" ∷ codes "confirm" ∷ name ∷ ws) 4 (Confirm name) command words confirm h

journal_spelled : (words : List (List ℕ)) (command : LiveCommand) → journal_read words ≡ Ok (Some command) → SpellsLive (codes "journal" ∷ words) command
journal_spelled [] command h = cc
journal_spelled (word ∷ words) command h =
    one_of_two word (codes "try") (codes "confirm") (try_read words) (confirm_read words) (Ok None) (Ok (Some command))
    (λ is e. subst (λ it. SpellsLive (codes "journal" ∷ it ∷ words) command) (sym is) (try_spelled words command e))
    (λ is e. subst (λ it. SpellsLive (codes "journal" ∷ it ∷ words) command) (sym is) (confirm_spelled words command e)) (λ e. cc) h

read_is_spelled : (words : List (List ℕ)) (command : LiveCommand) → words_read words ≡ Ok (Some command) → SpellsLive words command
read_is_spelled [] command h = cc
read_is_spelled (word ∷ words) command h =
    one_of_two word (codes "workers") (codes "journal") (workers_read words) (journal_read words) (Ok None) (Ok (Some command))
    (λ is e. subst (λ it. SpellsLive (it ∷ words) command) (sym is) (workers_spelled words command e))
    (λ is e. subst (λ it. SpellsLive (it ∷ words) command) (sym is) (journal_spelled words command e)) (λ e. cc) h

-- ---- where a line goes wrong
abbrev wrong : ℕ → Read
wrong k = Err (At k)

same_word : (j k : ℕ) → wrong j ≡ wrong k → j ≡ k
same_word j k h = cc

-- at word j, if the words before it can be gone on with, and those up to it come to nothing else
goes_wrong : (words : List (List ℕ)) (j k : ℕ) → wrong j ≡ wrong k → 0 < j → j ≤ length words + 1 → BeginsLive (take (j - 1) words) →
    (j ≤ length words → (rest : List (List ℕ)) → words_read (take j words ++ rest) ≡ wrong j) → words_read words ≡ wrong j → IsLiveFault words k
goes_wrong words j k told some within before stops refused =
    let at_j : IsLiveFault words j = record {
      some = some;
      within = within;
      before = before;
      none = λ below begins. let dead = stops below begins.0 in let alive = spelled_is_read begins.2 in cc;
      refused = λ command line. let alive = spelled_is_read line in cc;
    } in
    subst (IsLiveFault words) (same_word j k told) at_j

-- after `workers`
asked_wrong : (word : List ℕ) (asked : WorkersCommand) (words : List (List ℕ)) → spelled_by workers_word workers_commands word ≡ Some asked → (k : ℕ) → ended 3 (Workers asked) words ≡ wrong k →
    IsLiveFault (codes "workers" ∷ word ∷ words) k
asked_wrong word asked [] at k h = cc
asked_wrong word asked (more ∷ words) at k h =
    goes_wrong (codes "workers" ∷ word ∷ more ∷ words) 3 k h (omega arith) (omega arith) ([], Workers asked, asked_spelled word asked at)
    (λ _ rest. ap (λ o. at_word 2 o (λ it. ended 3 (Workers it) (more ∷ rest))) at) (ap (λ o. at_word 2 o (λ it. ended 3 (Workers it) (more ∷ words))) at)

workers_wrong : (words : List (List ℕ)) (k : ℕ) → workers_read words ≡ wrong k → IsLiveFault (codes "workers" ∷ words) k
workers_wrong [] k h =
    goes_wrong (codes "workers" ∷ []) 2 k h (omega arith) (omega arith) (codes "show" ∷ [], Workers w.Show, workers w.Show) (λ below rest. absurd (omega arith)) refl
workers_wrong (word ∷ words) k h =
    spells_or_not 2 (spelled_by workers_word workers_commands word) (λ asked. ended 3 (Workers asked) words) (wrong k)
    (λ none e. goes_wrong (codes "workers" ∷ word ∷ words) 2 k e (omega arith) (omega arith) (codes "show" ∷ [], Workers w.Show, workers w.Show)
    (λ _ rest. ap (λ o. at_word 2 o (λ it. ended 3 (Workers it) rest)) none) (ap (λ o. at_word 2 o (λ it. ended 3 (Workers it) words)) none))
    (λ asked at e. asked_wrong word asked words at k e) h

-- after `journal try`
tried_wrong : (name word : List ℕ) (seconds : ℕ) (words : List (List ℕ)) → seconds_of word ≡ Some seconds → (k : ℕ) → ended 5 (Try name seconds) words ≡ wrong k →
    IsLiveFault (codes "journal" ∷ codes "try" ∷ name ∷ word ∷ words) k
tried_wrong name word seconds [] is k h = cc
tried_wrong name word seconds (more ∷ words) is k h =
    goes_wrong (codes "journal" ∷ codes "try" ∷ name ∷ word ∷ more ∷ words) 5 k h (omega arith) (omega arith) ([], Try name seconds, try is)
    (λ _ rest. ap (λ o. at_word 4 o (λ it. ended 5 (Try name it) (more ∷ rest))) is) (ap (λ o. at_word 4 o (λ it. ended 5 (Try name it) (more ∷ words))) is)

try_wrong : (words : List (List ℕ)) (k : ℕ) → try_read words ≡ wrong k → IsLiveFault (codes "journal" ∷ codes "try" ∷ words) k
try_wrong [] k h =
    goes_wrong (codes "journal" ∷ codes "try" ∷ []) 3 k h (omega arith) (omega arith) (codes "x" ∷ codes "1" ∷ [], Try (codes "x") 1, try refl) (λ below rest. absurd (omega arith)) refl
try_wrong (name ∷ []) k h =
    goes_wrong (codes "journal" ∷ codes "try" ∷ name ∷ []) 4 k h (omega arith) (omega arith) (codes "1" ∷ [], Try name 1, try refl) (λ below rest. absurd (omega arith)) refl
try_wrong (name ∷ word ∷ words) k h =
    spells_or_not 4 (seconds_of word) (λ seconds. ended 5 (Try name seconds) words) (wrong k)
    (λ none e. goes_wrong (codes "journal" ∷ codes "try" ∷ name ∷ word ∷ words) 4 k e (omega arith) (omega arith) (codes "1" ∷ [], Try name 1, try refl)
    (λ _ rest. ap (λ o. at_word 4 o (λ it. ended 5 (Try name it) rest)) none) (ap (λ o. at_word 4 o (λ it. ended 5 (Try name it) words)) none))
    (λ seconds is e. tried_wrong name word seconds words is k e) h

-- after `journal confirm`
confirm_wrong : (words : List (List ℕ)) (k : ℕ) → confirm_read words ≡ wrong k → IsLiveFault (codes "journal" ∷ codes "confirm" ∷ words) k
confirm_wrong [] k h =
    goes_wrong (codes "journal" ∷ codes "confirm" ∷ []) 3 k h (omega arith) (omega arith) (codes "x" ∷ [], Confirm (codes "x"), confirm) (λ below rest. absurd (omega arith)) refl
confirm_wrong (name ∷ []) k h = cc
confirm_wrong (name ∷ more ∷ words) k h =
    goes_wrong (codes "journal" ∷ codes "confirm" ∷ name ∷ more ∷ words) 4 k h (omega arith) (omega arith) ([], Confirm name, confirm) (λ _ rest. refl) refl

journal_wrong : (words : List (List ℕ)) (k : ℕ) → journal_read words ≡ wrong k → IsLiveFault (codes "journal" ∷ words) k
journal_wrong [] k h = cc
journal_wrong (word ∷ words) k h =
    one_of_two word (codes "try") (codes "confirm") (try_read words) (confirm_read words) (Ok None) (wrong k)
    (λ is e. subst (λ it. IsLiveFault (codes "journal" ∷ it ∷ words) k) (sym is) (try_wrong words k e))
    (λ is e. subst (λ it. IsLiveFault (codes "journal" ∷ it ∷ words) k) (sym is) (confirm_wrong words k e)) (λ e. cc) h

read_wrong : (words : List (List ℕ)) (k : ℕ) → words_read words ≡ wrong k → IsLiveFault words k
read_wrong [] k h = cc
read_wrong (word ∷ words) k h =
    one_of_two word (codes "workers") (codes "journal") (workers_read words) (journal_read words) (Ok None) (wrong k)
    (λ is e. subst (λ it. IsLiveFault (it ∷ words) k) (sym is) (workers_wrong words k e))
    (λ is e. subst (λ it. IsLiveFault (it ∷ words) k) (sym is) (journal_wrong words k e)) (λ e. cc) h

-- ---- lines of the console are left to it
journal_is_left : {words : List (List ℕ)} {command : JournalCommand} → SpellsJournal words command → journal_read words ≡ Ok None
journal_is_left j.mark = refl
journal_is_left j.undo = refl
journal_is_left j.undo_to = refl
journal_is_left j.redo = refl
journal_is_left j.list = refl
journal_is_left j.forget = refl
journal_is_left (j.without is) = refl

console_is_left : {words : List (List ℕ)} {command : Command} → Spells words command → words_read words ≡ Ok None
console_is_left (g.map it) = refl
console_is_left (g.prog it) = refl
console_is_left (g.net it) = refl
console_is_left g.batch = refl
console_is_left g.unpin = refl
console_is_left (g.frame it) = refl
console_is_left (g.run it) = refl
console_is_left (g.journal it) = journal_is_left it

-- ---- what a call answers
pub told_command : (r : Read) (words : List (List ℕ)) → Answers r (words_read words) → IfOk r (λ found. IfSome found (SpellsLive words))
told_command (Ok None) words h = tt
told_command (Ok (Some command)) words h = read_is_spelled words command (sym h)
told_command (Err e) words h = tt

pub told_only : (r : Read) (words : List (List ℕ)) → Answers r (words_read words) → (command : LiveCommand) → SpellsLive words command → Answers r (Ok (Some command))
told_only r words h command line = subst (Answers r) (spelled_is_read line) h

pub told_fault : (r : Read) (words : List (List ℕ)) → Answers r (words_read words) → IfAt r (IsLiveFault words)
told_fault (Ok found) words h = tt
told_fault (Err TooLong) words h = tt
told_fault (Err (At k)) words h = read_wrong words k (sym h)
told_fault (Err NoMemory) words h = tt

pub told_console : (r : Read) (words : List (List ℕ)) → Answers r (words_read words) → (command : Command) → Spells words command → Answers r (Ok None)
told_console r words h command line = subst (Answers r) (console_is_left line) h
