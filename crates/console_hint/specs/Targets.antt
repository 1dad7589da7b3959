-- Where a jump leads.
use Rattle.std.specs.Prelude.{ℕ, ℤ, pos, ◌+ℤ◌, ◌==◌, if◌then◌else◌}
use Rattle.console_hint.specs.declared.slot.Slot.{Slot}
use Rattle.console_hint.specs.declared.slot.TheConstants.{LONG_JUMP}

-- the distance is counted from the next slot, and is the immediate of a long jump
abbrev pub target_of : Slot → ℕ → ℤ
target_of slot number = (pos number +ℤ pos 1) +ℤ (if slot.opcode == LONG_JUMP then slot.immediate else slot.offset)
