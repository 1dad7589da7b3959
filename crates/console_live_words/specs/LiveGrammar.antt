-- The lines that only a live host has, as their words spell them, and where a line that is not well formed goes wrong.
use Rattle.std.specs.Prelude.{◌≡◌, ℕ, ◌+◌, ◌-◌, ◌<◌, ◌≤◌, if◌then◌else◌, List, [], ◌∷◌, ◌++◌, length, take, Option, Some, None, codes}
use Rattle.console_operand.specs.Number.{is_between, number_of}
use Rattle.console_live_words.specs.declared.command.LiveCommand.{LiveCommand}
use Rattle.console_live_words.specs.declared.command.LiveCommand.TheVariants as live
use Rattle.console_live_words.specs.declared.command.WorkersCommand.{WorkersCommand}
use Rattle.console_live_words.specs.declared.command.WorkersCommand.TheVariants as w

abbrev pub workers_word : WorkersCommand → List ℕ
workers_word w.Show = codes "show"
workers_word w.Stop = codes "stop"
workers_word w.Go = codes "go"
workers_word w.Wait = codes "wait"

abbrev pub workers_commands : List WorkersCommand
workers_commands = w.Show ∷ w.Stop ∷ w.Go ∷ w.Wait ∷ []

-- a number from 1 to 86,400: the seconds of a day
abbrev pub of_a_day : Option ℕ → Option ℕ
of_a_day None = None
of_a_day (Some n) = if is_between 1 86400 n then Some n else None

-- SECONDS
abbrev pub seconds_of : List ℕ → Option ℕ
seconds_of word = of_a_day (number_of word)

-- the grammar: the words spell this command
pub data SpellsLive : List (List ℕ) → LiveCommand → Type 0 where
  workers : (command : WorkersCommand) → SpellsLive (codes "workers" ∷ workers_word command ∷ []) (live.Workers command)
  try : {name word : List ℕ} {seconds : ℕ} → seconds_of word ≡ Some seconds →
      SpellsLive (codes "journal" ∷ codes "try" ∷ name ∷ word ∷ []) (live.Try name seconds)
  confirm : {name : List ℕ} → SpellsLive (codes "journal" ∷ codes "confirm" ∷ name ∷ []) (live.Confirm name)

-- some well-formed line begins with these words
abbrev pub BeginsLive : List (List ℕ) → Type 0
BeginsLive front = (rest : List (List ℕ)) × (command : LiveCommand) × SpellsLive (front ++ rest) command

-- k is the least number of words with which no well-formed line begins, or the number of words plus 1 if the line
-- ends too early
pub record IsLiveFault (words : List (List ℕ)) (k : ℕ) : Type 0 where
  pub some : 0 < k
  pub within : k ≤ length words + 1
  pub before : BeginsLive (take (k - 1) words)
  pub none : k ≤ length words → BeginsLive (take k words) → ⊥
  pub refused : (command : LiveCommand) → SpellsLive words command → ⊥
