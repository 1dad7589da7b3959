use Rattle.std.proofs.Common.{◌≤◌}
use Rattle.bench_hash.proofs.all.Given as goal

abbrev pub invariant-loop-key : goal.invariant-loop-key
invariant-loop-key l = l.count ≤ l.key-index
