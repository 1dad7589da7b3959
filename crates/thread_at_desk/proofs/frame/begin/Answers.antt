use Rattle.thread_at_desk.proofs.Framing.{asked}
use Rattle.thread_at_desk.proofs.frame.begin.Goals as goal

pub returns-clause-one : goal.returns-clause-one
returns-clause-one g c = asked _ _ c.begin_on.ensures.same
