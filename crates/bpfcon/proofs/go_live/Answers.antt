use Rattle.bpfcon.proofs.Carrying.{carried_live}
use Rattle.bpfcon.proofs.Ending.{read_live}
use Rattle.bpfcon.proofs.go_live.Goals as goal

pub returns-in-Ok-clause-ran : goal.returns-in-Ok-clause-ran
returns-in-Ok-clause-ran g c =
    carried_live _ _ _ (g.R.FileReader.may_read c.args.rt.now) (g.W.Output.contents c.args.out) (g.W.Output.contents c.serve_live.result.0) c.serve_live.result.1 c.args.live.now
    c.in-Ok.script.text.items c.in-Ok.frames.items c.in-Ok.script.files.items (rw (c.in-Ok.script-is, c.in-Ok.frames-is) at c.in-Ok.ensures.ran) (rw c.deref.ensures.value at c.serve_live.ensures.ran)

pub returns-in-Err-clause-only : goal.returns-in-Err-clause-only
returns-in-Err-clause-only g c = read_live _ c.in-Err.fault c.in-Err.ensures.only
