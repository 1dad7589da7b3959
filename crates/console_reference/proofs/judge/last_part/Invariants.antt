use Rattle.std.proofs.Common.{◌≡◌, length}
use Rattle.console_reference.specs.Programs.{part_from}
use Rattle.console_reference.proofs.judge.last_part.Given as goal

abbrev pub invariant-loop-byte : goal.invariant-loop-byte
invariant-loop-byte l = part_from l.part l.rest ≡ part_from l.initial.path l.initial.path

abbrev pub decreases-loop-byte : goal.decreases-loop-byte
decreases-loop-byte l = length l.rest
