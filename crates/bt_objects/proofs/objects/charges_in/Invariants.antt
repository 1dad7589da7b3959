use Rattle.std.proofs.Common.{◌≡◌, ◌+◌}
use Rattle.bt_objects.specs.Boxes.{listed_charges}
use Rattle.bt_objects.proofs.objects.charges_in.Given as goal

abbrev pub invariant-loop-placed : goal.invariant-loop-placed
invariant-loop-placed g l = l.sum + listed_charges l.placed-iterator ≡ listed_charges l.boxes.entries
