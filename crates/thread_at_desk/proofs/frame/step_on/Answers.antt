use Rattle.thread_at_desk.proofs.Framing.{one_step}
use Rattle.thread_at_desk.proofs.frame.step_on.Goals as goal

pub returns-clause-one : goal.returns-clause-one
returns-clause-one g c = let does = c.step.ensures.does in one_step does.0 _ _ _ _ c.step.result does.1
