-- The slots of a program's bytes (RFC 9669, section 3.1 Basic Instruction Encoding), whether or not they are instructions.
use Rattle.std.specs.Prelude.{ℕ, ◌+◌, ◌*◌, ◌/◌, ◌&&◌, nat_le, nat_lt, if◌then◌else◌, List, length, take, drop, slice_index, Option, Some, None}
use Rattle.std.specs.Int.{w16, w32, from_le_bytes, cast_signed}
use Rattle.console_hint.specs.declared.slot.Slot.{Slot}

-- the fields that the first eight bytes spell
abbrev pub slot_of : List ℕ → Slot
slot_of bytes = record {
  opcode = slice_index bytes 0;
  src = slice_index bytes 1 / 16;
  offset = cast_signed w16 (from_le_bytes w16 (take 2 (drop 2 bytes)));
  immediate = cast_signed w32 (from_le_bytes w32 (take 4 (drop 4 bytes)));
}

-- the slot of a number below 4,096, if all of it is there
abbrev pub slot_at : List ℕ → ℕ → Option Slot
slot_at program number =
    if nat_lt number 4096 && nat_le (8 * number + 8) (length program) then Some (slot_of (drop (8 * number) program)) else None
