use Rattle.thread_frames.proofs.Deals.{takes, takes_learn}
use Rattle.std.proofs.Common.{◌<◌, subst, sym}
use Rattle.thread_frames.proofs.frames.Frames.next.Goals as goal

pub pop_as-requires-clause-rule : goal.pop_as-requires-clause-rule
pop_as-requires-clause-rule g c = (takes _ _ (subst (λ n. 0 < n) (sym c.args.take.now.parts_are) c.args.take.now.some), takes_learn _ _)
