use Rattle.std.proofs.Common.{◌≤◌}
use Rattle.bench_hash.proofs.prefixes.all.Given as goal

abbrev pub invariant-loop-prefix : goal.invariant-loop-prefix
invariant-loop-prefix l = l.count ≤ l.prefix-index
