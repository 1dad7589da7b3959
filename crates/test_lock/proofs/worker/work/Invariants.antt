use Rattle.std.proofs.Common.{◌≡◌, ◌++◌, map}
use Rattle.thread_lock.specs.declared.counter.Ask.TheVariants.{Add}
use Rattle.thread_lock.specs.History.{entry}
use Rattle.thread_lock.specs.Seats.{IsSeatOf, numbers, number, own_calls}
use Rattle.test_lock.proofs.worker.work.Given as goal

abbrev pub invariant-loop : goal.invariant-loop
invariant-loop g l = record {
  seat : IsSeatOf l.turns l.seat;
  same : numbers l.seat ≡ numbers l.fn.seat;
  own : own_calls l.seat ≡ own_calls l.fn.seat ++ map (λ answer. entry (number l.fn.seat) (Add 1) answer) l.answers.items;
}
