-- OBJ, what `prog load` loads: bytes as hexadecimal digits, or a file.
use Rattle.std.specs.Prelude.{ℕ, if◌then◌else◌, List, drop, Option, Some, None, Result, Ok, Err, codes}
use Rattle.std.specs.Option.{option_map}
use Rattle.hex.specs.Hex.{decode_of}
use Rattle.hex.specs.declared.error.FromHexError.{FromHexError}
use Rattle.console_operand.specs.Number.{begins}
use Rattle.console_operand.specs.declared.object.Object.{Object}
use Rattle.console_operand.specs.declared.object.Object.TheVariants.{Hex, File}

abbrev pub where_decoded : Result (List ℕ) FromHexError → Option (List ℕ)
where_decoded (Ok bytes) = Some bytes
where_decoded (Err e) = None

-- the bytes that pairs of hexadecimal digits spell
abbrev pub hex_bytes : List ℕ → Option (List ℕ)
hex_bytes digits = where_decoded (decode_of digits)

-- `hex:` and such digits, or else the path of a file
abbrev pub object_of : List ℕ → Option Object
object_of word = if begins word (codes "hex:") then option_map Hex (hex_bytes (drop 4 word)) else Some (File word)
