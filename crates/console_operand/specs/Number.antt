-- Numbers and bytes as words spell them: as C's `strtoul` reads them with base 0, without a sign (bpftool-map(8)).
use Rattle.std.specs.Prelude.{ℕ, ◌+◌, ◌-◌, ◌*◌, ◌^◌, Bool, ◌&&◌, nat_lt, nat_le, nat_eq, if◌then◌else◌, List, [], ◌∷◌, drop, Option, Some, None, codes}
use Rattle.std.specs.List.{list_all, starts_with}

abbrev pub is_between : ℕ → ℕ → ℕ → Bool
is_between low high byte = nat_le low byte && nat_le byte high

-- the value of a digit, 16 if it is none
abbrev pub digit_of : ℕ → ℕ
digit_of byte =
    if is_between 48 57 byte then byte - 48 else
    if is_between 97 102 byte then byte - 87 else
    if is_between 65 70 byte then byte - 55 else 16

abbrev pub is_digit : ℕ → ℕ → Bool
is_digit base byte = nat_lt (digit_of byte) base

-- what digits come to after a number, the highest digit first
abbrev pub value_behind : ℕ → ℕ → List ℕ → ℕ
value_behind base n [] = n
value_behind base n (byte ∷ bytes) = value_behind base (n * base + digit_of byte) bytes

-- digits after a number, if all are digits
abbrev pub digits_behind : ℕ → ℕ → List ℕ → Option ℕ
digits_behind base n bytes = if list_all (is_digit base) bytes then Some (value_behind base n bytes) else None

-- one or more digits of a base
abbrev pub numeral_of : ℕ → List ℕ → Option ℕ
numeral_of base [] = None
numeral_of base (byte ∷ bytes) = digits_behind base 0 (byte ∷ bytes)

abbrev pub begins : List ℕ → List ℕ → Bool
begins word front = starts_with nat_eq word front

-- the number that a word spells: hexadecimal after `0x`, octal after `0`, else decimal
abbrev pub spelled_number : List ℕ → Option ℕ
spelled_number word =
    if begins word (codes "0x") then numeral_of 16 (drop 2 word) else
    if begins word (codes "0") then numeral_of 8 word else numeral_of 10 word

abbrev pub below : ℕ → Option ℕ → Option ℕ
below limit None = None
below limit (Some n) = if nat_lt n limit then Some n else None

-- NUM of a serial or of a run
abbrev pub long_number_of : List ℕ → Option ℕ
long_number_of word = below (2 ^ 64) (spelled_number word)

-- NUM of all else
abbrev pub number_of : List ℕ → Option ℕ
number_of word = below (2 ^ 32) (spelled_number word)

-- a byte is a number up to 255
abbrev pub byte_of : List ℕ → Option ℕ
byte_of word = below 256 (spelled_number word)

abbrev pub without_0x : List ℕ → List ℕ
without_0x word = if begins word (codes "0x") then drop 2 word else word

-- a byte in hexadecimal digits, with or without `0x`
abbrev pub hex_byte_of : List ℕ → Option ℕ
hex_byte_of word = below 256 (numeral_of 16 (without_0x word))
