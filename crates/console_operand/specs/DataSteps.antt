-- DATA read a word at a time.
use Rattle.std.specs.Prelude.{◌≡◌, ◌+◌, ◌<◌, ℕ, Bool, true, false, nat_lt, ◌&&◌, not, if◌then◌else◌, List, [], ◌∷◌, ◌++◌, length, Option, Some, None, codes}
use Rattle.std.specs.Option.{option_map}
use Rattle.std.specs.Str.{bytes_eq}
use Rattle.console_operand.specs.Number.{byte_of, hex_byte_of}
use Rattle.console_operand.specs.Word.{words}
use Rattle.console_operand.specs.Data.{AreBytes}
use Rattle.console_operand.specs.Automaton.{Reading, TakesWord}
use Rattle.console_operand.specs.declared.data_words.Data.{Data}

-- no word is read yet
abbrev pub no_data : Data
no_data = record { is_hex = false; bytes = [] }

abbrev pub no_hex_data : Data
no_hex_data = record { is_hex = true; bytes = [] }

abbrev pub is_empty : List ℕ → Bool
is_empty [] = true
is_empty (byte ∷ bytes) = false

-- `hex` may come first
abbrev pub begins_hex : Data → List ℕ → Bool
begins_hex d word = not d.is_hex && is_empty d.bytes && bytes_eq word (codes "hex")

abbrev pub spelled_byte : Bool → List ℕ → Option ℕ
spelled_byte true word = hex_byte_of word
spelled_byte false word = byte_of word

-- the byte that a word adds
abbrev pub next_byte : Data → List ℕ → Option ℕ
next_byte d word = if nat_lt (length d.bytes) 260 then spelled_byte d.is_hex word else None

abbrev pub with_byte : Data → ℕ → Data
with_byte d byte = record d { bytes = d.bytes ++ byte ∷ [] }

-- what one more word makes of DATA; none if the word is no part of it
abbrev pub data_step : Data → List ℕ → Option Data
data_step d word = if begins_hex d word then Some no_hex_data else option_map (with_byte d) (next_byte d word)

abbrev pub some_bytes : List ℕ → Option (List ℕ)
some_bytes [] = None
some_bytes (byte ∷ bytes) = Some (byte ∷ bytes)

-- the bytes, if DATA may end: there is one at least
abbrev pub data_finish : Data → Option (List ℕ)
data_finish d = some_bytes d.bytes

-- the first word of a line spells this byte, and this comes after it
pub record BeginsByte (spelled : List ℕ → Option ℕ) (line : List ℕ) (byte : ℕ) (rest : List ℕ) : Type 0 where
  pub word : List ℕ
  pub cut : words line ≡ word ∷ words rest
  pub is : spelled word ≡ Some byte
  pub shorter : length rest < length line

-- the next word of a line spells this byte, and is taken
pub record TakesByte (spelled : List ℕ → Option ℕ) (before : Reading) (byte : ℕ) (after : Reading) : Type 0 where
  pub word : List ℕ
  pub taken : TakesWord before word after
  pub is : spelled word ≡ Some byte

-- the next words of a line spell these bytes, and are taken
pub record TakesBytes (spelled : List ℕ → Option ℕ) (before : Reading) (bytes : List ℕ) (after : Reading) : Type 0 where
  pub front : List (List ℕ)
  pub are : AreBytes spelled front bytes
  pub cut : before.left ≡ front ++ after.left
  pub count : before.count + length front ≡ after.count
