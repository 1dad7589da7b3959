use Rattle.std.proofs.Common.{◌≡◌, length}
use Rattle.bt_syntax.specs.Files.{file_at}
use Rattle.bt_syntax.proofs.files.file_at.Given as goal

abbrev pub invariant-loop-file : goal.invariant-loop-file
invariant-loop-file l = file_at l.rest l.path ≡ file_at l.fn.files l.fn.path

abbrev pub decreases-loop-file : goal.decreases-loop-file
decreases-loop-file l = length l.rest
