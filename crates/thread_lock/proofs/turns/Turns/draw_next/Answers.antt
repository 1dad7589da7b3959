use Rattle.std.proofs.Common.{rules, refl}
use Rattle.thread_lock.proofs.Steady.{draws_next}
use Rattle.thread_lock.proofs.turns.Turns.draw_next.Goals as goal

pub compare_exchange-found-requires : goal.compare_exchange-found-requires
compare_exchange-found-requires g c = (search rules, search rules, draws_next g.S.Sequential.steps _ _ _ _ c.requires.idle.0 c.requires.idle.1 c.args.ticket _ refl)
