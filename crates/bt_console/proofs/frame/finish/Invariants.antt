use Rattle.std.proofs.Common.{◌-◌}
use Rattle.bt_console.proofs.Framed.{CameTo}
use Rattle.bt_console.proofs.frame.finish.Given as goal

abbrev pub invariant-steps : goal.invariant-steps
invariant-steps g l = CameTo l.fn.book.plain l.fn.run l.book.plain l.run

abbrev pub decreases-steps : goal.decreases-steps
decreases-steps g l = 139264 - l.run.machine.steps
