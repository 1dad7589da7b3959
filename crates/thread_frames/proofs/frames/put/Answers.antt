use Rattle.thread_frames.proofs.Deals.{puts, puts_learn}
use Rattle.thread_frames.proofs.frames.put.Goals as goal

pub push_as-requires-clause-rule : goal.push_as-requires-clause-rule
push_as-requires-clause-rule g c = (puts _ _ _ _ c.requires.pass.1 c.requires.number, puts_learn _ _ c.requires.pass.1)
