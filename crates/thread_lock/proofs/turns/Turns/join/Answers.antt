use Rattle.std.proofs.Common.{rules}
use Rattle.thread_lock.proofs.Steady.{stays_at_load}
use Rattle.thread_lock.proofs.Joining.{merges}
use Rattle.thread_lock.proofs.turns.Turns.join.Goals as goal

pub join_seat-requires : goal.join_seat-requires
join_seat-requires g c = (search rules, search rules, search rules, search rules, merges g.S.Sequential.steps _ _ _ _ _ c.meet.new.a.idle c.meet.new.b.idle c.meet.ensures.seen)

pub load-requires : goal.load-requires
load-requires g c = (search rules, search rules, stays_at_load g.S.Sequential.steps _ _ _ _ _)
