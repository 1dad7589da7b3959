use Rattle.std.proofs.Common.{inr}
use Rattle.sqlite.specs.Held.{state}
use Rattle.kept_lines.proofs.Standing.{flushed_kept}
use Rattle.kept_lines.proofs.script.settle.Goals as goal

pub returns-in-Ok-clause-flushed : goal.returns-in-Ok-clause-flushed
returns-in-Ok-clause-flushed g c =
    inr (flushed_kept (state g.D.Store c.args.conn.now) (state g.D.Store c.flush.new.conn) (g.W.Output.contents c.args.out.now) (g.W.Output.contents c.flush.new.out) (g.W.Output.contents c.tell.new.out)
    c.args.group.now.events.items c.flush.new.group.events.items c.args.group.now.text.items c.flush.new.group.text.items c.in-Ok.ensures.flushed c.tell.ensures.kept)

pub returns-in-Ok-clause-times : goal.returns-in-Ok-clause-times
returns-in-Ok-clause-times g c = c.in-Ok.ensures.times
