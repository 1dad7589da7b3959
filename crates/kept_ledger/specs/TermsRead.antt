-- Names that are read from a text, byte by byte.
use Rattle.std.specs.Prelude.{◌≡◌, ℕ, ◌==◌, cond, List, [], ◌∷◌, ◌++◌}

-- a byte was read: a blank ends the name that was begun, and another continues it
abbrev pub IsRead : List (List ℕ) → List ℕ → ℕ → List (List ℕ) → List ℕ → Type 0
IsRead names name byte more next =
    (more ≡ cond (byte == 32) (names ++ name ∷ []) names) × (next ≡ cond (byte == 32) [] (name ++ byte ∷ []))
