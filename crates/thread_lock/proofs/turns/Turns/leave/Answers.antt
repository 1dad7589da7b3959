use Rattle.std.proofs.Common.{rules}
use Rattle.thread_lock.proofs.Serving.{serves}
use Rattle.thread_lock.proofs.turns.Turns.leave.Goals as goal

pub fetch_add-ticket-requires : goal.fetch_add-ticket-requires
fetch_add-ticket-requires g c = (search rules, search rules, serves g.S.Sequential.steps _ _ _ c.requires.turn.0 _ c.requires.turn.1 c.requires.numbered c.requires.opened c.requires.worked)
