use Rattle.std.proofs.Common.{◌-◌, ◌*◌}
use Rattle.bench_desk.proofs.frames.desk.+desk.Given as goal

abbrev pub decreases-share : goal.decreases-share
decreases-share g l = 2 * l.doublings

abbrev pub decreases-join+arg2 : goal.decreases-join+arg2
decreases-join+arg2 g l = 2 * l.doublings - 1

abbrev pub decreases-join+arg3 : goal.decreases-join+arg3
decreases-join+arg3 g l = 2 * l.doublings - 1
