use Rattle.kept_host.proofs.Looking.{tells_so}
use Rattle.kept_host.proofs.talk.told_look.Goals as goal

pub returns-in-Ok-clause-told : goal.returns-in-Ok-clause-told
returns-in-Ok-clause-told g c = tells_so c.args.look.now c.args.book.now.plain (g.W.Output.contents c.args.out.now) (g.W.Output.contents c.look_now.new.out) c.in-Ok._counted c.in-Ok.ensures.looked
