use Rattle.std.proofs.Common.{List, length, subst}
use Rattle.thread_frames.specs.declared.frame.FrameIn.{FrameIn}
use Rattle.thread_host_run.specs.FrameTexts.{ends_text}
use Rattle.thread_host_run.specs.HostRuns.{AreServed}
use Rattle.thread_kept_frames.proofs.Disk.{held_text}
use Rattle.thread_kept_frames.proofs.serve.serve.Goals as goal

pub returns-in-Ok-clause-served : goal.returns-in-Ok-clause-served
returns-in-Ok-clause-served g c = subst (λ (all : List FrameIn). AreServed c.args.book.plain all c.in-Ok.ends.items c.in-Ok.book.plain) c.in_ok-frames.ensures.whole.0 c.in-Ok.ensures.served.served

pub returns-in-Ok-clause-text : goal.returns-in-Ok-clause-text
returns-in-Ok-clause-text g c = held_text c.new-text.result.items c.serve_frames.new.out.items (ends_text c.in-Ok.ends.items (length c.in-Ok.book.plain.line.moments)) c.new-text.ensures.items c.in-Ok.ensures.served.wrote
