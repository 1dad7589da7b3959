use Rattle.std.proofs.Common.{rules}
use Rattle.thread_lock.proofs.Looking.{looks}
use Rattle.thread_lock.proofs.turns.Turns.is_served.Goals as goal

pub load-requires : goal.load-requires
load-requires g c = (search rules, search rules, looks g.S.Sequential.steps _ _ _ c.args.ticket _ c.requires.waits)
