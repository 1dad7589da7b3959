use Rattle.std.proofs.Common.{◌≡◌, drop}
use Rattle.thread_kept_frames.specs.Courses.{tallied}
use Rattle.thread_kept_frames.proofs.live.counted.tallied.Given as goal

abbrev pub invariant-loop-it : goal.invariant-loop-it
invariant-loop-it l = tallied l.tally (drop l.it-index l.ends) ≡ tallied l.initial.tally l.ends
