use Rattle.std.proofs.Common.{◌≡◌, drop}
use Rattle.bt_roots.specs.View.{are_distinct}
use Rattle.bt_roots.proofs.device.are_distinct.Given as goal

abbrev pub invariant-loop-place : goal.invariant-loop-place
invariant-loop-place l = are_distinct l.names ≡ are_distinct (drop l.place l.names)
