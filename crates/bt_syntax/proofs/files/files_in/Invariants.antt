use Rattle.std.proofs.Common.{◌≡◌, ◌++◌, length}
use Rattle.console_operand.specs.Line.{lines_of}
use Rattle.bt_syntax.specs.Files.{files_of}
use Rattle.bt_syntax.proofs.files.files_in.Given as goal

-- what was found and what is left are all
abbrev pub invariant-loop-rest : goal.invariant-loop-rest
invariant-loop-rest l = record { left : l.paths.items ++ files_of (lines_of l.rest) ≡ files_of (lines_of l.fn.text) }

abbrev pub decreases-loop-rest : goal.decreases-loop-rest
decreases-loop-rest l = length l.rest
