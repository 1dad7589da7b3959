use Rattle.bt_desk.specs.Seats.{IsSeatAt}
use Rattle.test_workers.proofs.consoles.talk.Given as goal

abbrev pub invariant-loop-round : goal.invariant-loop-round
invariant-loop-round g l = IsSeatAt l.desk l.seat

abbrev pub invariant-loop-line : goal.invariant-loop-line
invariant-loop-line g l = IsSeatAt l.desk l.seat
