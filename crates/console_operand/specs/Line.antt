-- The lines of a text, and the longest line.
use Rattle.std.specs.Prelude.{ℕ, Bool, true, false, ◌==◌, ◌&&◌, if◌then◌else◌, List, [], ◌∷◌}
use Rattle.std.specs.List.{onto_first}

abbrev pub is_empty : List ℕ → Bool
is_empty [] = true
is_empty (byte ∷ line) = false

abbrev pub begins_lf : List ℕ → Bool
begins_lf [] = false
begins_lf (byte ∷ text) = byte == 10

-- a line ends with LF, and a CR just before that is no part of it; the last line may lack the LF
abbrev pub lines_of : List ℕ → List (List ℕ)
lines_of [] = []
lines_of (byte ∷ text) =
    if byte == 10 then [] ∷ lines_of text else
    if (byte == 13) && begins_lf text then lines_of text else onto_first byte (lines_of text)

-- a line that ended with LF, without a CR at its end
abbrev pub without_cr : List ℕ → List ℕ
without_cr [] = []
without_cr (byte ∷ line) = if (byte == 13) && is_empty line then [] else byte ∷ without_cr line
