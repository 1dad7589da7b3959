-- The bytes that spell instructions (RFC 9669, section 3 Instruction Encoding).
use Rattle.std.specs.Prelude.{ℕ, ℤ, pos, List, [], ◌++◌}
use Rattle.std.specs.List.{flat_map, sum_by}
use Rattle.bt_insn.specs.declared.fields.Fields.{Fields}
use Rattle.bt_insn.specs.declared.insn.Insn.{Insn}
use Rattle.bt_insn.specs.declared.insn.Insn.TheVariants.{LoadImmediate, LoadMap}
use Rattle.bt_insn.specs.Slot.{slot_bytes}
use Rattle.bt_insn.specs.Table.{fields_of, high_of, slots_of}

-- the second slot of a wide instruction has an immediate alone (section 3.2 Wide Instruction Encoding)
abbrev pub second_fields : ℤ → Fields
second_fields high = record { opcode = 0; dst = 0; src = 0; offset = pos 0; immediate = high }

abbrev pub second_slot : Insn → List ℕ
second_slot (LoadImmediate dst value) = slot_bytes (second_fields (high_of (LoadImmediate dst value)))
second_slot (LoadMap dst id) = slot_bytes (second_fields (pos 0))
second_slot _ = []

-- an instruction: its first slot, and its second if it is wide
unfoldable pub spelling_of : Insn → List ℕ
spelling_of v = slot_bytes (fields_of v) ++ second_slot v

-- instructions, one after the other
abbrev pub spelling : List Insn → List ℕ
spelling insns = flat_map spelling_of insns

-- how many slots they take
abbrev pub slots_in : List Insn → ℕ
slots_in insns = sum_by slots_of insns
