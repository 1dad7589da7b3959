use Rattle.std.proofs.Common.{◌≡◌, ◌-◌, ◌≤◌, length, drop}
use Rattle.console_operand.specs.Word.{words}
use Rattle.console_operand.proofs.words.spaces.Given as goal

abbrev pub invariant-loop-n : goal.invariant-loop-n
invariant-loop-n l = record { bound : l.n ≤ length l.line; skipped : words (drop l.n l.line) ≡ words l.line }

abbrev pub decreases-loop-n : goal.decreases-loop-n
decreases-loop-n l = length l.line - l.n
