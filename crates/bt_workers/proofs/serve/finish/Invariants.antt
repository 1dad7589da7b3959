use Rattle.std.proofs.Common.{◌≡◌, ◌+◌, ◌-◌, ◌≤◌, ◌^◌}
use Rattle.thread_lock.specs.Seats.{calls_left}
use Rattle.bt_desk.specs.Seats.{IsSeatAt}
use Rattle.bt_workers.specs.Gates.{passes, AreTold}
use Rattle.bt_workers.proofs.Going.{Onward}
use Rattle.bt_workers.proofs.serve.finish.Given as goal

abbrev pub decreases-calls : goal.decreases-calls
decreases-calls g l = calls_left l.seat

abbrev pub invariant-calls : goal.invariant-calls
invariant-calls g l =
    IsSeatAt l.desk l.seat × (l.nth + calls_left l.seat ≤ 2 ^ 63) × Onward l.initial.seat l.initial.run l.seat l.run
    × (l.nth + calls_left l.seat ≡ 2 + calls_left l.initial.seat)
    × AreTold g.G.Gate.told l.initial.gate (passes l.frame 2 (calls_left l.initial.seat - calls_left l.seat)) l.gate
