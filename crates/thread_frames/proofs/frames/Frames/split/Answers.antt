use Rattle.thread_frames.proofs.Deals.{halves}
use Rattle.std.proofs.Common.{arith}
use Rattle.thread_frames.proofs.frames.Frames.split.Goals as goal

pub another-pass-requires-clause-rule : goal.another-pass-requires-clause-rule
another-pass-requires-clause-rule c = halves _ _ (omega (arith, c.args.take.now.parts_are, c.args.take.now.some))
