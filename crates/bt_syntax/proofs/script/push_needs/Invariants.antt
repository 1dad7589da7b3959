use Rattle.std.proofs.Common.{◌≡◌, ◌++◌, length}
use Rattle.console_operand.specs.Line.{lines_of}
use Rattle.bt_syntax.specs.Needs.{needs_of}
use Rattle.bt_syntax.proofs.script.push_needs.Given as goal

-- what was found and what is left are all
abbrev pub invariant-loop-rest : goal.invariant-loop-rest
invariant-loop-rest l = record { left : l.attrs.items ++ needs_of (lines_of l.rest) ≡ l.initial.attrs.items ++ needs_of (lines_of l.fn.text) }

abbrev pub decreases-loop-rest : goal.decreases-loop-rest
decreases-loop-rest l = length l.rest
