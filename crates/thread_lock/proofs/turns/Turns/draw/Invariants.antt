use Rattle.std.proofs.Common.{◌≡◌}
use Rattle.thread_lock.proofs.turns.Turns.draw.Given as goal

abbrev pub invariant-sleeps : goal.invariant-sleeps
invariant-sleeps g l = (l.place.table_id ≡ l.fn.place.table_id) × (l.place.me ≡ l.fn.place.me)
