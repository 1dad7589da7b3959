-- The eight bytes of a slot (RFC 9669, section 3.1 Basic Instruction Encoding).
use Rattle.std.specs.Prelude.{ℕ, ◌+◌, ◌*◌, ◌<◌, List, ◌∷◌, ◌++◌, FitsSigned}
use Rattle.std.specs.Int.{w16, w32, to_le_bytes, cast_unsigned}
use Rattle.bt_insn.specs.declared.fields.Fields.{Fields}

abbrev pub slot_bytes : Fields → List ℕ
slot_bytes f =
    f.opcode ∷ (f.dst + 16 * f.src) ∷ (to_le_bytes w16 (cast_unsigned w16 f.offset) ++ to_le_bytes w32 (cast_unsigned w32 f.immediate))

-- the fields are no wider than a slot has them
pub record FitsSlot (f : Fields) : Type 0 where
  pub dst : f.dst < 16
  pub src : f.src < 16
  pub offset : FitsSigned w16 f.offset
  pub immediate : FitsSigned w32 f.immediate
