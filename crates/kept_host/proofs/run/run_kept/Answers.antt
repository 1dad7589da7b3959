use Rattle.sqlite.specs.Held.{state}
use Rattle.console_script.proofs.Supplied.{all_get_new}
use Rattle.kept_host.proofs.Running.{not_run, ran_kept, stops_kept}
use Rattle.kept_lines.proofs.Added.{added_to}
use Rattle.kept_host.proofs.run.run_kept.Goals as goal

pub returns-in-Err-clause-runs : goal.returns-in-Err-clause-runs
returns-in-Err-clause-runs g c =
    not_run c.args.terms c.args.script.now.files.items c.args.script.now.text.items (state g.D.Store c.args.conn.now) (g.W.Output.contents c.args.out.now) (state g.D.Store c.begin.new.conn) c.in-Err.fault c.in-Err.ensures.begins

pub returns-in-Ok-ran-clause-runs : goal.returns-in-Ok-ran-clause-runs
returns-in-Ok-ran-clause-runs g c =
    ran_kept c.args.terms c.args.script.now.files.items c.args.script.now.text.items (state g.D.Store c.args.conn.now) (g.W.Output.contents c.args.out.now) (state g.D.Store c.begin.new.conn) (state g.D.Store c.keep_lines-ran.new.conn)
    (g.W.Output.contents c.keep_lines-ran.new.out) c.in-Ok.book c.keep_lines-ran.new.book.plain c.in-Ok.ensures.begins c.keep_lines-ran.ensures.clean _ c.in-Ok-ran.summary (λ run. all_get_new _ _ (λ from attr told to it. it) _ _ run)
    c.in-Ok-ran.ensures.ran c.in-Ok-ran.ensures.kept

pub returns-in-Err-ran-clause-runs : goal.returns-in-Err-ran-clause-runs
returns-in-Err-ran-clause-runs g c =
    stops_kept c.args.terms c.args.script.now.files.items c.args.script.now.text.items (state g.D.Store c.args.conn.now) (g.W.Output.contents c.args.out.now) (state g.D.Store c.begin.new.conn) (state g.D.Store c.keep_lines-ran.new.conn)
    (g.W.Output.contents c.keep_lines-ran.new.out) c.in-Ok.book c.keep_lines-ran.new.book.plain c.in-Ok.ensures.begins c.keep_lines-ran.ensures.clean c.in-Err-ran.fault c.in-Err-ran.ensures.stops

pub returns-in-Ok-ran-clause-times : goal.returns-in-Ok-ran-clause-times
returns-in-Ok-ran-clause-times g c =
    added_to c.args.terms c.args.time (state g.D.Store c.args.conn.now) (state g.D.Store c.begin.new.conn) (state g.D.Store c.keep_lines-ran.new.conn) c.keep_lines-ran.ensures.clean c.in-Ok.ensures.entries c.in-Ok-ran.ensures.times
