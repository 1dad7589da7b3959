use Rattle.std.proofs.Common.{◌*◌, ◌-◌}
use Rattle.test_lock.proofs.counters.+doubling.Given as goal

abbrev pub decreases-add_ones_by : goal.decreases-add_ones_by
decreases-add_ones_by g l = 2 * l.doublings

abbrev pub decreases-join+arg2 : goal.decreases-join+arg2
decreases-join+arg2 g l = 2 * l.doublings - 1

abbrev pub decreases-join+arg3 : goal.decreases-join+arg3
decreases-join+arg3 g l = 2 * l.doublings - 1
