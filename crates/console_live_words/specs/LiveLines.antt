-- What a line comes to that only a live host has, by its words.
use Rattle.std.specs.Prelude.{◌≡◌, ℕ, nat_lt, if◌then◌else◌, List, [], ◌∷◌, length, Option, Some, None, Result, Ok, Err, ⊤, codes}
use Rattle.std.specs.Str.{bytes_eq}
use Rattle.console_operand.specs.Word.{words, spelled_by}
use Rattle.bt_syntax.specs.declared.fault.SyntaxFault.{SyntaxFault}
use Rattle.bt_syntax.specs.declared.fault.SyntaxFault.TheVariants.{At, NoMemory}
use Rattle.bt_syntax.specs.declared.parse.TheConstants.{LINE_MAX}
use Rattle.console_live_words.specs.LiveGrammar.{workers_word, workers_commands, seconds_of}
use Rattle.console_live_words.specs.declared.command.LiveCommand.{LiveCommand}
use Rattle.console_live_words.specs.declared.command.LiveCommand.TheVariants.{Workers, Try, Confirm}

-- what stands as word k, and what is read after it
abbrev pub at_word : {A : Type 0} → ℕ → Option A → (A → Result (Option LiveCommand) SyntaxFault) → Result (Option LiveCommand) SyntaxFault
at_word k None behind = Err (At k)
at_word k (Some it) behind = behind it

-- a command after which nothing may stand as word k
abbrev pub ended : ℕ → LiveCommand → List (List ℕ) → Result (Option LiveCommand) SyntaxFault
ended k command [] = Ok (Some command)
ended k command (word ∷ words) = Err (At k)

-- what comes after `workers`
abbrev pub workers_read : List (List ℕ) → Result (Option LiveCommand) SyntaxFault
workers_read [] = Err (At 2)
workers_read (word ∷ words) = at_word 2 (spelled_by workers_word workers_commands word) (λ command. ended 3 (Workers command) words)

-- after `journal try`
abbrev pub try_read : List (List ℕ) → Result (Option LiveCommand) SyntaxFault
try_read [] = Err (At 3)
try_read (name ∷ []) = Err (At 4)
try_read (name ∷ word ∷ words) = at_word 4 (seconds_of word) (λ seconds. ended 5 (Try name seconds) words)

-- after `journal confirm`
abbrev pub confirm_read : List (List ℕ) → Result (Option LiveCommand) SyntaxFault
confirm_read [] = Err (At 3)
confirm_read (name ∷ words) = ended 4 (Confirm name) words

-- after `journal`
abbrev pub journal_read : List (List ℕ) → Result (Option LiveCommand) SyntaxFault
journal_read [] = Ok None
journal_read (word ∷ words) =
    if bytes_eq word (codes "try") then try_read words else
    if bytes_eq word (codes "confirm") then confirm_read words else Ok None

-- what words come to; `None` if they are to be read as a line of the console
abbrev pub words_read : List (List ℕ) → Result (Option LiveCommand) SyntaxFault
words_read [] = Ok None
words_read (word ∷ words) =
    if bytes_eq word (codes "workers") then workers_read words else
    if bytes_eq word (codes "journal") then journal_read words else Ok None

-- what a line comes to; one that is too long is the console's to refuse
abbrev pub live_read : List ℕ → Result (Option LiveCommand) SyntaxFault
live_read line = if nat_lt LINE_MAX (length line) then Ok None else words_read (words line)

-- a call answers this, unless memory runs out
abbrev pub Answers : Result (Option LiveCommand) SyntaxFault → Result (Option LiveCommand) SyntaxFault → Type 0
Answers (Err NoMemory) answer = ⊤
Answers result answer = result ≡ answer
