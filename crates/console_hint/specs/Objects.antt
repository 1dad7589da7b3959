-- What bytes are that were meant as a program, and words that spell bytes.
use Rattle.std.specs.Prelude.{ℕ, ◌==◌, ◌%◌, ◌&&◌, if◌then◌else◌, Bool, List, ◌∷◌, length, codes, nat_eq, Option, Some, None}
use Rattle.std.specs.Char.{is_ascii_hexdigit}
use Rattle.std.specs.List.{list_all, starts_with}
use Rattle.console_hint.specs.declared.object.ObjectFault.{ObjectFault}
use Rattle.console_hint.specs.declared.object.ObjectFault.TheVariants.{Elf, Text, Empty}

-- by the first four bytes, or because there are none
abbrev pub object_fault : List ℕ → Option ObjectFault
object_fault bytes =
    if starts_with nat_eq bytes (127 ∷ codes "ELF") then Some Elf else
    if starts_with nat_eq bytes (codes "hex:") then Some Text else
    if length bytes == 0 then Some Empty else
    None

-- pairs of hexadecimal digits
abbrev pub are_digits : List ℕ → Bool
are_digits word = (length word % 2 == 0) && list_all is_ascii_hexdigit word
