use Rattle.std.proofs.Common.{◌-◌, ◌*◌}
use Rattle.bench_lock.proofs.+mutex.Given as goal

abbrev pub decreases-share_mutex : goal.decreases-share_mutex
decreases-share_mutex g l = 2 * l.doublings

abbrev pub decreases-join+arg2 : goal.decreases-join+arg2
decreases-join+arg2 g l = 2 * l.doublings - 1

abbrev pub decreases-join+arg3 : goal.decreases-join+arg3
decreases-join+arg3 g l = 2 * l.doublings - 1
