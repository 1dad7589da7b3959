use Rattle.std.proofs.KnownBytes.{Appends-kept}
use Rattle.console_looks.specs.Answered.{looked_text}
use Rattle.thread_asides.proofs.looks.put_now.Goals as goal

pub returns-in-Ok-flush_all-clause-text : goal.returns-in-Ok-flush_all-clause-text
returns-in-Ok-flush_all-clause-text g c =
    Appends-kept (g.W.Output.contents c.args.out.now) (g.W.Output.contents c.put_looked.new.out) (g.W.Output.contents c.flush_all.new.self) (looked_text c.args.looked.now) c.in-Ok.ensures.text c.flush_all.ensures.bytes
