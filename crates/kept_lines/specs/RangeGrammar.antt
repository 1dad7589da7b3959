-- The line that takes a range of changes out, as its words spell it.
use Rattle.std.specs.Prelude.{ℕ, if◌then◌else◌, List, [], ◌∷◌, Option, None, codes}
use Rattle.std.specs.Option.{option_map, option_and_then}
use Rattle.std.specs.Str.{bytes_eq}
use Rattle.console_operand.specs.Number.{long_number_of}
use Rattle.kept_lines.specs.declared.range.SerialRange.{SerialRange}

-- after the first serial: one word, the last
abbrev pub last_in : ℕ → List (List ℕ) → Option SerialRange
last_in first (word ∷ []) = option_map (λ last. record { first = first; last = last }) (long_number_of word)
last_in first _ = None

-- after `journal without`
abbrev pub serials_in : List (List ℕ) → Option SerialRange
serials_in [] = None
serials_in (word ∷ words) = option_and_then (λ first. last_in first words) (long_number_of word)

-- after `journal`
abbrev pub range_behind : List (List ℕ) → Option SerialRange
range_behind [] = None
range_behind (word ∷ words) = if bytes_eq word (codes "without") then serials_in words else None

-- a line
abbrev pub range_in : List (List ℕ) → Option SerialRange
range_in [] = None
range_in (word ∷ words) = if bytes_eq word (codes "journal") then range_behind words else None
