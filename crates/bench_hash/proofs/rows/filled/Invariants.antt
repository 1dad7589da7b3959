use Rattle.std.proofs.Common.{◌≡◌}
use Rattle.bench_hash.proofs.rows.filled.Given as goal

abbrev pub invariant-loop-key : goal.invariant-loop-key
invariant-loop-key l = (l.table.key_size ≡ 4) × (l.table.value_size ≡ 8) × (l.table.capacity ≡ l.count)
