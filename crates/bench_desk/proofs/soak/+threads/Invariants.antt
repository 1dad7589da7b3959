use Rattle.std.proofs.Common.{◌-◌, ◌*◌}
use Rattle.bench_desk.proofs.soak.+threads.Given as goal

abbrev pub decreases-play_by : goal.decreases-play_by
decreases-play_by g l = 2 * l.doublings

abbrev pub decreases-join+arg2 : goal.decreases-join+arg2
decreases-join+arg2 g l = 2 * l.doublings - 1

abbrev pub decreases-join+arg3 : goal.decreases-join+arg3
decreases-join+arg3 g l = 2 * l.doublings - 1
