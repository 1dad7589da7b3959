use Rattle.std.proofs.Common.{◌≡◌}
use Rattle.thread_lock.proofs.turns.Turns.await_turn.Given as goal

abbrev pub invariant-looks : goal.invariant-looks
invariant-looks g l = (l.place.table_id ≡ l.fn.place.table_id) × (l.place.me ≡ l.fn.place.me)
