use Rattle.thread_asides.proofs.Looking.{shows_at}
use Rattle.thread_asides.proofs.looks.show_now.Goals as goal

pub returns-in-Ok-put_now-clause-shown : goal.returns-in-Ok-put_now-clause-shown
returns-in-Ok-put_now-clause-shown g c =
    shows_at c.args.desk.now c.args.serial c.args.looker.now c.show_at.new.seat (g.W.Output.contents c.args.out.now) (g.W.Output.contents c.put_now.new.out) c.in-Ok.looked c.in-Ok.ensures.shown c.in-Ok-put_now.ensures.text
