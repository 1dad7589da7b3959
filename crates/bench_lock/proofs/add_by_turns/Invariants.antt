use Rattle.thread_lock.specs.Seats.{IsSeatOf}
use Rattle.bench_lock.proofs.add_by_turns.Given as goal

abbrev pub invariant-loop : goal.invariant-loop
invariant-loop g l = IsSeatOf l.turns l.seat
