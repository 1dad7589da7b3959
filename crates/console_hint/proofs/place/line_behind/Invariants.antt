use Rattle.std.proofs.Common.{◌≡◌, ◌+◌, ◌≤◌, length}
use Rattle.console_operand.specs.Line.{lines_of}
use Rattle.console_hint.specs.Places.{line_behind}
use Rattle.console_hint.proofs.place.line_behind.Given as goal

abbrev pub invariant-loop-rest : goal.invariant-loop-rest
invariant-loop-rest l =
    (line_behind (l.number + 1) l.left (lines_of l.rest) ≡ line_behind 1 l.accepted (lines_of l.text)) × (l.number + length l.rest ≤ length l.text)

abbrev pub decreases-loop-rest : goal.decreases-loop-rest
decreases-loop-rest l = length l.rest
