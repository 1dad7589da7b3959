use Rattle.std.proofs.Common.{All}
use Rattle.thread_frames.specs.Faults.{IsShort}
use Rattle.test_rounds.proofs.counting.frames.Given as goal

abbrev pub invariant-frames : goal.invariant-frames
invariant-frames g l = All IsShort l.frames.items
