use Rattle.sqlite.specs.Held.{state}
use Rattle.console_script.proofs.Supplied.{all_get_new}
use Rattle.kept_host.proofs.Talking.{not_talked, talked_kept, talk_stopped}
use Rattle.kept_host.proofs.run.talk_kept.Goals as goal

pub returns-in-Err : goal.returns-in-Err
returns-in-Err g c =
    not_talked c.args.terms (g.R.FileReader.may_read c.args.rt.now) (g.I.Read.remaining c.args.input.now) (state g.D.Store c.args.conn.now) (g.W.Output.contents c.args.out.now) (state g.D.Store c.begin.new.conn) c.in-Err.fault c.in-Err.ensures.begins

pub returns-in-Ok-talked : goal.returns-in-Ok-talked
returns-in-Ok-talked g c =
    talked_kept c.args.terms (g.R.FileReader.may_read c.args.rt.now) (g.I.Read.remaining c.args.input.now) (state g.D.Store c.args.conn.now) (g.W.Output.contents c.args.out.now)
    _ (λ from run to it. all_get_new _ _ (λ from attr told to it. it) from to run it) _ (state g.D.Store c.begin.new.conn) (state g.D.Store c.keep_talk-talked.new.conn) (g.W.Output.contents c.keep_talk-talked.new.out) c.in-Ok.book
    c.in-Ok.ensures.begins c.keep_talk-talked.ensures.clean _ c.keep_talk-talked.new.book.plain c.in-Ok-talked.summary c.in-Ok-talked.ensures.talked c.in-Ok-talked.ensures.kept

pub returns-in-Err-talked : goal.returns-in-Err-talked
returns-in-Err-talked g c =
    talk_stopped c.args.terms (g.R.FileReader.may_read c.args.rt.now) (g.I.Read.remaining c.args.input.now) (state g.D.Store c.args.conn.now) (g.W.Output.contents c.args.out.now)
    _ (λ from run to it. all_get_new _ _ (λ from attr told to it. it) from to run it) _ (state g.D.Store c.begin.new.conn) (state g.D.Store c.keep_talk-talked.new.conn) (g.W.Output.contents c.keep_talk-talked.new.out) c.in-Ok.book
    c.in-Ok.ensures.begins c.keep_talk-talked.ensures.clean c.in-Err-talked.broken c.fault_of.result c.fault_of.ensures c.in-Err-talked.ensures.left
