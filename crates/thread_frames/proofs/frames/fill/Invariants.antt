use Rattle.std.proofs.Common.{◌≡◌, [], ◌++◌, length}
use Rattle.crossbeam_queue.specs.Passes.{view, IsPassOf}
use Rattle.thread_frames.specs.declared.deal.TheConstants.{MOST_PARTS}
use Rattle.thread_frames.specs.Deal.{hand}
use Rattle.thread_frames.proofs.frames.fill.Given as goal

abbrev pub invariant-loop-frame : goal.invariant-loop-frame
invariant-loop-frame g l =
    IsPassOf l.line l.pass × (view l.pass ≡ hand MOST_PARTS l.yielded []) × (l.number ≡ length l.yielded) × (l.yielded ++ l.frame-iterator.rest.items ≡ l.fn.frames.items)
