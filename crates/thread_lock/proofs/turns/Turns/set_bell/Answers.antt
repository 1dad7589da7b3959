use Rattle.std.proofs.Common.{rules}
use Rattle.thread_lock.proofs.Steady.{stays_at_bell}
use Rattle.thread_lock.proofs.turns.Turns.set_bell.Goals as goal

pub store-requires : goal.store-requires
store-requires g c = (search rules, search rules, stays_at_bell g.S.Sequential.steps _ _ _ _ _)
