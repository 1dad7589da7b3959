use Rattle.std.proofs.Common.{drop}
use Rattle.std.specs.List.{flat_map}
use Rattle.console_text.proofs.Writing.{Written}
use Rattle.thread_host_run.specs.FrameTexts.{frame_text}
use Rattle.thread_host_run.proofs.text.put_frames.Given as goal

abbrev pub invariant-loop-row : goal.invariant-loop-row
invariant-loop-row g l = Written (g.W.Output.contents l.initial.out) (g.W.Output.contents l.out) (flat_map frame_text l.ends) (flat_map frame_text (drop l.row-index l.ends))
