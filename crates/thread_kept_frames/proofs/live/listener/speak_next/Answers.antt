use Rattle.std.proofs.Common.{sym, ◌∙◌}
use Rattle.console_script.proofs.StepRuns.{at_end}
use Rattle.thread_kept_frames.proofs.Heeding.{at_its_end}
use Rattle.thread_kept_frames.proofs.live.listener.speak_next.Goals as goal

pub returns-then-is_empty : goal.returns-then-is_empty
returns-then-is_empty g c =
    at_its_end (g.I.Read.remaining c.args.input.now) c.read_line.new.line.items c.in-Ok.ensures.line
    (at_end c.read_line.new.line.items (rw c.read_line.new.line.ok.0 at (sym c.is_empty.ensures ∙ c.if-is_empty.true)))
