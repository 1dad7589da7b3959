use Rattle.bt_desk.specs.Seats.{IsSeatAt}
use Rattle.test_workers.proofs.threads.write.Given as goal

abbrev pub invariant-loop-number : goal.invariant-loop-number
invariant-loop-number g l = IsSeatAt l.desk l.seat
