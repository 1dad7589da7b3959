-- What a write of a text does to the bytes that a writer is known to hold.
use Rattle.std.specs.Prelude.{◌≡◌, ℕ, ◌<◌, List, ◌++◌, length, Option, Result, Ok, Err}
use Rattle.std.specs.Io.KnownBytes.{Appends}

-- of this text a front was written, and not all
pub record WritesFront (old new : Option (List ℕ)) (text : List ℕ) : Type 0 where
  pub written : List ℕ
  pub unwritten : List ℕ
  pub cut : text ≡ written ++ unwritten
  pub some_left : 0 < length unwritten
  pub appends : Appends old new written

-- the text was written, or if a write failed a front of it
abbrev pub Writes : {T E : Type 0} → Option (List ℕ) → Option (List ℕ) → Result T E → List ℕ → Type 0
Writes old new (Ok done) text = Appends old new text
Writes old new (Err fault) text = WritesFront old new text
