-- The lines that ask for a log, as their words spell them.
use Rattle.std.specs.Prelude.{ℕ, if◌then◌else◌, List, [], ◌∷◌, Option, Some, None, codes}
use Rattle.std.specs.Str.{bytes_eq}
use Rattle.console_operand.specs.Number.{long_number_of}
use Rattle.kept_log.specs.declared.line.LogLine.{LogLine}
use Rattle.kept_log.specs.declared.line.LogLine.TheVariants.{Asks, Wrong}

-- the third word is a count, and no word comes after it
abbrev pub counted : Option ℕ → List (List ℕ) → LogLine
counted None words = Wrong 3
counted (Some count) [] = Asks (Some count)
counted (Some count) (word ∷ words) = Wrong 4

-- after `journal log`
abbrev pub log_behind : List (List ℕ) → LogLine
log_behind [] = Asks None
log_behind (word ∷ words) = counted (long_number_of word) words

-- after `journal`
abbrev pub journal_behind : List (List ℕ) → Option LogLine
journal_behind [] = None
journal_behind (word ∷ words) = if bytes_eq word (codes "log") then Some (log_behind words) else None

-- a line
abbrev pub log_line_in : List (List ℕ) → Option LogLine
log_line_in [] = None
log_line_in (word ∷ words) = if bytes_eq word (codes "journal") then journal_behind words else None
