use Rattle.std.proofs.Common.{◌-◌, ◌≤◌, take}
use Rattle.console_operand.specs.DataSteps.{spelled_byte, TakesBytes}
use Rattle.console_operand.proofs.unread.Unread.short_bytes.Given as goal

-- the bytes so far are taken
abbrev pub invariant-loop-count : goal.invariant-loop-count
invariant-loop-count l = record { bound : l.count ≤ l.room; took : TakesBytes (spelled_byte l.is_hex) l.fn.self (take l.count l.bytes) l.left }

abbrev pub decreases-loop-count : goal.decreases-loop-count
decreases-loop-count l = l.room - l.count
