use Rattle.std.proofs.Common.{◌≡◌, ◌++◌, length}
use Rattle.console_operand.specs.Line.{lines_of}
use Rattle.bt_syntax.specs.Needs.{needs_with}
use Rattle.bt_syntax.proofs.script.needs.Given as goal

-- what was found and what is left are all
abbrev pub invariant-loop-rest : goal.invariant-loop-rest
invariant-loop-rest l = record { left : l.attrs.items ++ needs_with l.script.files.items (lines_of l.rest) ≡ needs_with l.script.files.items (lines_of l.script.text.items) }

abbrev pub decreases-loop-rest : goal.decreases-loop-rest
decreases-loop-rest l = length l.rest
