use Rattle.bt_desk.specs.Seats.{IsSeatAt}
use Rattle.bench_desk.proofs.soak.play.Given as goal

abbrev pub invariant-loop : goal.invariant-loop
invariant-loop g l = IsSeatAt l.desk l.seat
