use Rattle.bt_desk.specs.Seats.{IsSeatAt}
use Rattle.test_workers.proofs.gone.sees_an_addition.Given as goal

abbrev pub invariant-looks : goal.invariant-looks
invariant-looks g l = IsSeatAt l.desk l.seat
