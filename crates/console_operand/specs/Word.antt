-- The words of a line.
use Rattle.std.specs.Prelude.{◌≡◌, ℕ, Bool, true, false, ◌||◌, ◌==◌, if◌then◌else◌, List, [], ◌∷◌, filter, Option, Some, None}
use Rattle.std.specs.Str.{bytes_eq}
use Rattle.std.specs.List.{slice_split}

-- a space or a tab
abbrev pub is_space : ℕ → Bool
is_space byte = (byte == 32) || (byte == 9)

-- `#` begins a comment
abbrev pub is_comment : ℕ → Bool
is_comment byte = byte == 35

-- no word has these bytes
abbrev pub ends_word : ℕ → Bool
ends_word byte = is_space byte || is_comment byte

-- no word goes on where this stands
abbrev pub ends_here : List ℕ → Bool
ends_here [] = true
ends_here (byte ∷ line) = ends_word byte

-- the bytes in front of the comment
abbrev pub before_comment : List ℕ → List ℕ
before_comment [] = []
before_comment (byte ∷ line) = if is_comment byte then [] else byte ∷ before_comment line

abbrev pub has_bytes : List ℕ → Bool
has_bytes [] = false
has_bytes (byte ∷ bytes) = true

-- the parts between spaces that are not empty
abbrev pub words_of : List ℕ → List (List ℕ)
words_of text = filter has_bytes (slice_split is_space text)

-- the words of a line, up to its comment
abbrev pub words : List ℕ → List (List ℕ)
words line = words_of (before_comment line)

-- the first of the words is not this one
abbrev pub FirstIsNot : List (List ℕ) → List ℕ → Type 0
FirstIsNot words word = (rest : List (List ℕ)) → words ≡ word ∷ rest → ⊥

-- the one of these things that a word spells
abbrev pub spelled_by : {A : Type 0} → (A → List ℕ) → List A → List ℕ → Option A
spelled_by spelling [] word = None
spelled_by spelling (thing ∷ things) word =
    if bytes_eq word (spelling thing) then Some thing else spelled_by spelling things word
