use Rattle.std.proofs.Common.{◌-◌}
use Rattle.thread_live.proofs.crew.+fn-man-join+arg2+fn-man-join+arg3+man.Given as goal

abbrev pub decreases-join+arg2 : goal.decreases-join+arg2
decreases-join+arg2 g l = l.count - l.half

abbrev pub decreases-join+arg3 : goal.decreases-join+arg3
decreases-join+arg3 g l = l.half

abbrev pub decreases-man : goal.decreases-man
decreases-man g l = l.count
