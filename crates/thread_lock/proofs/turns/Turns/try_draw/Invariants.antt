use Rattle.std.proofs.Common.{◌≡◌}
use Rattle.thread_lock.proofs.turns.Turns.try_draw.Given as goal

abbrev pub invariant-tries : goal.invariant-tries
invariant-tries g l = (l.place.table_id ≡ l.fn.place.table_id) × (l.place.me ≡ l.fn.place.me)
