use Rattle.console_script.proofs.Supplied.{all_get_new}
use Rattle.thread_host_run.proofs.OnHost.{served_behind}
use Rattle.bpfcon.proofs.host_run.serve_then_run.Goals as goal

pub returns-in-Ok-clause-ran : goal.returns-in-Ok-clause-ran
returns-in-Ok-clause-ran g c =
    served_behind (g.W.Output.contents c.args.out.now) (g.W.Output.contents c.serve_script.new.out) (g.W.Output.contents c.run_lines-ran.new.out) c.args.script.now.files.items c.args.script.now.text.items c.args.frames.now
    c.in_ok-book.book.plain c.in_ok-book.summary _ c.args.behind.now.files.items c.args.behind.now.text.items c.run_lines-ran.new.book.plain c.in-Ok.more c.in_ok-book.ensures.ran
    (λ run. all_get_new _ _ (λ from attr told to it. it) _ _ run) c.in-Ok.ensures.ran _ c.plus.ensures
