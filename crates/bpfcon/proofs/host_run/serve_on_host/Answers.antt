use Rattle.thread_host_run.proofs.OnHost.{runs_new}
use Rattle.bpfcon.proofs.host_run.serve_on_host.Goals as goal

pub returns-clause-ran : goal.returns-clause-ran
returns-clause-ran g c =
    runs_new (g.W.Output.contents c.args.out.now) (g.W.Output.contents c.serve_script.new.out) c.args.script.now.files.items c.args.script.now.text.items c.args.frames.now c.in_ok-book.book.plain c.in_ok-book.summary c.in_ok-book.ensures.ran
