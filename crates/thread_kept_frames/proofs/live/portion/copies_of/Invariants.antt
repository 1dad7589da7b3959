use Rattle.std.proofs.Common.{◌≡◌, map, take}
use Rattle.thread_kept_frames.specs.Portions.{content_of}
use Rattle.thread_kept_frames.proofs.live.portion.copies_of.Given as goal

abbrev pub invariant-loop-frame : goal.invariant-loop-frame
invariant-loop-frame l = map content_of l.copies.items ≡ map content_of (take l.frame-index l.frames)
