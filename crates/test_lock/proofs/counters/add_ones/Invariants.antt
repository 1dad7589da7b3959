use Rattle.thread_lock.specs.Seats.{IsSeatOf}
use Rattle.test_lock.proofs.counters.add_ones.Given as goal

abbrev pub invariant-loop : goal.invariant-loop
invariant-loop g l = IsSeatOf l.turns l.seat
