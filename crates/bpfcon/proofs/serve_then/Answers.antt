use Rattle.bpfcon.proofs.Carrying.{served_then}
use Rattle.bpfcon.proofs.serve_then.Goals as goal

pub returns-clause-ran : goal.returns-clause-ran
returns-clause-ran g c =
    served_then (g.R.FileReader.may_read c.args.rt.now) (g.W.Output.contents c.args.out.now) (g.W.Output.contents c.serve_then_run.new.out) c.serve_then_run.result c.args.path.now c.args.frames.now c.args.after.now
    c.in_ok-script.script.text.items c.in_ok-text.text.items c.in_ok-behind.behind.text.items c.in_ok-script.script.files.items c.in_ok-behind.behind.files.items c.in_ok-script.ensures.ran c.in_ok-text.ensures.ran c.in_ok-behind.ensures.ran
    (rw c.deref.ensures.value at c.serve_then_run.ensures.ran)
