-- The line of a batch that was refused.
use Rattle.std.specs.Prelude.{ℕ, ◌+◌, ◌-◌, ◌==◌, Bool, true, false, if◌then◌else◌, List, [], ◌∷◌, Option, Some, None, unwrap_or}
use Rattle.std.specs.Option.{option_map, option_and_then}
use Rattle.console_operand.specs.Word.{words}
use Rattle.console_operand.specs.Line.{lines_of}
use Rattle.bt_syntax.specs.declared.files.FileText.{FileText}
use Rattle.bt_syntax.specs.Files.{batch_in, file_at}
use Rattle.bt_syntax.specs.Steps.{line_read}

abbrev pub is_some_word : List (List ℕ) → Bool
is_some_word [] = false
is_some_word (word ∷ words) = true

-- of lines that are numbered from here on, the one after so many that have words, with its number
abbrev pub line_behind : ℕ → ℕ → List (List ℕ) → Option (ℕ × List ℕ)
line_behind number accepted [] = None
line_behind number accepted (line ∷ lines) =
    if is_some_word (words line)
    then (if accepted == 0 then Some (number, line) else line_behind (number + 1) (accepted - 1) lines)
    else line_behind (number + 1) accepted lines

-- a line where it stands: the file, the number and the line
abbrev pub in_file : List ℕ → ℕ × List ℕ → List ℕ × ℕ × List ℕ
in_file file it = (file, it.0, it.1)

-- in the text of a file, the line after so many
abbrev pub place_behind : List ℕ → ℕ → List ℕ → Option (List ℕ × ℕ × List ℕ)
place_behind file accepted text = option_map (in_file file) (line_behind 1 accepted (lines_of text))

abbrev pub place_in : List FileText → ℕ → List ℕ → Option (List ℕ × ℕ × List ℕ)
place_in files accepted path = option_and_then (place_behind path accepted) (file_at files path)

-- the line of its batch after so many, or the line itself if it runs no batch of these files
abbrev pub refused_behind : List FileText → ℕ → List ℕ × ℕ × List ℕ → List ℕ × ℕ × List ℕ
refused_behind files accepted own = unwrap_or (option_and_then (place_in files accepted) (batch_in (line_read own.2))) own
