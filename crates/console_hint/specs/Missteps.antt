-- The instruction of which a slot is part.
use Rattle.std.specs.Prelude.{ℕ, ◌-◌, nat_lt, if◌then◌else◌, List, [], ◌∷◌, Option, Some, None}
use Rattle.bt_insn.specs.declared.insn.Insn.{Insn}
use Rattle.bt_insn.specs.Table.{slots_of}

-- slots are counted from 0, and a wide instruction has two
abbrev pub insn_at : ℕ → List Insn → Option Insn
insn_at slot [] = None
insn_at slot (insn ∷ insns) =
    if nat_lt slot (slots_of insn) then Some insn else insn_at (slot - slots_of insn) insns
