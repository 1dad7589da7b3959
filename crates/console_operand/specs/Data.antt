-- DATA, the bytes of a key or a value: 1 to 260 bytes a word each, or `hex` and the same in hexadecimal.
use Rattle.std.specs.Prelude.{◌≡◌, ℕ, ◌<◌, ◌≤◌, List, [], ◌∷◌, length, Option, Some, ⊤, codes}
use Rattle.console_operand.specs.Number.{byte_of, hex_byte_of}

-- each word spells the byte in its place
abbrev pub AreBytes : (List ℕ → Option ℕ) → List (List ℕ) → List ℕ → Type 0
AreBytes spelled [] [] = ⊤
AreBytes spelled [] (byte ∷ bytes) = ⊥
AreBytes spelled (word ∷ words) [] = ⊥
AreBytes spelled (word ∷ words) (byte ∷ bytes) = (spelled word ≡ Some byte) × AreBytes spelled words bytes

pub record AreData (spelled : List ℕ → Option ℕ) (words : List (List ℕ)) (bytes : List ℕ) : Type 0 where
  pub bytewise : AreBytes spelled words bytes
  pub some : 0 < length bytes
  pub limit : length bytes ≤ 260

-- the words are DATA of these bytes
pub data IsData : List (List ℕ) → List ℕ → Type 0 where
  plain : {words : List (List ℕ)} {bytes : List ℕ} → AreData byte_of words bytes → IsData words bytes
  hex : {words : List (List ℕ)} {bytes : List ℕ} → AreData hex_byte_of words bytes → IsData (codes "hex" ∷ words) bytes
