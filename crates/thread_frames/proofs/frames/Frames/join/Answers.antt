use Rattle.thread_frames.proofs.Deals.{gathers, gathers_learn}
use Rattle.std.proofs.Common.{◌<◌, subst, sym}
use Rattle.thread_frames.proofs.frames.Frames.join.Goals as goal

pub absorb-requires-clause-rule : goal.absorb-requires-clause-rule
absorb-requires-clause-rule c = gathers _ _ _ _ (subst (λ n. 0 < n) (sym c.args.take.now.parts_are) c.args.take.now.some)

pub learn_as-requires-clause-rule : goal.learn_as-requires-clause-rule
learn_as-requires-clause-rule c = gathers_learn _ _
