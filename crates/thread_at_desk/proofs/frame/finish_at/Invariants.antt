use Rattle.thread_lock.specs.Seats.{calls_left}
use Rattle.bt_desk.specs.Seats.{IsSeatAt}
use Rattle.thread_at_desk.proofs.Framing.{CameOn}
use Rattle.thread_at_desk.proofs.frame.finish_at.Given as goal

abbrev pub decreases-steps : goal.decreases-steps
decreases-steps g l = calls_left l.seat

abbrev pub invariant-steps : goal.invariant-steps
invariant-steps g l = IsSeatAt l.desk l.seat × CameOn l.desk l.initial.run l.initial.seat l.run l.seat
