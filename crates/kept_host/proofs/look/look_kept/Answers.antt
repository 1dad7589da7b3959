use Rattle.sqlite.specs.Held.{state}
use Rattle.kept_host.proofs.Looking.{not_looked, looked_kept, look_stops}
use Rattle.kept_host.proofs.look.look_kept.Goals as goal

pub returns-in-Err : goal.returns-in-Err
returns-in-Err g c = not_looked c.args.terms c.args.look.now (state g.D.Store c.args.conn.now) (g.W.Output.contents c.args.out.now) (state g.D.Store c.begin.new.conn) c.in-Err.fault c.in-Err.ensures.begins

pub returns-in-Ok-looked : goal.returns-in-Ok-looked
returns-in-Ok-looked g c =
    looked_kept c.args.terms c.args.look.now (state g.D.Store c.args.conn.now) (g.W.Output.contents c.args.out.now) (state g.D.Store c.begin.new.conn) (g.W.Output.contents c.look_now-looked.new.out) c.in-Ok.book c.in-Ok.ensures.begins
    c.in-Ok-looked.summary c.in-Ok-looked.ensures.looked

pub returns-in-Err-looked : goal.returns-in-Err-looked
returns-in-Err-looked g c =
    look_stops c.args.terms c.args.look.now (state g.D.Store c.args.conn.now) (g.W.Output.contents c.args.out.now) (state g.D.Store c.begin.new.conn) (g.W.Output.contents c.look_now-looked.new.out) c.in-Ok.book c.in-Ok.ensures.begins
    c.in-Err-looked.fault c.in-Err-looked.ensures.only c.in-Err-looked.ensures.front
