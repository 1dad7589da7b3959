use Rattle.bpfcon.proofs.Carrying.{served}
use Rattle.bpfcon.proofs.serve.Goals as goal

pub returns-clause-ran : goal.returns-clause-ran
returns-clause-ran g c =
    served (g.R.FileReader.may_read c.args.rt.now) (g.W.Output.contents c.args.out.now) (g.W.Output.contents c.serve_on_host.new.out) c.serve_on_host.result c.args.path.now c.args.frames.now
    c.in_ok-script.script.text.items c.in_ok-text.text.items c.in_ok-script.script.files.items c.in_ok-script.ensures.ran c.in_ok-text.ensures.ran (rw c.deref.ensures.value at c.serve_on_host.ensures.ran)
