use Rattle.bpfcon.proofs.Carrying.{ran_file}
use Rattle.bpfcon.proofs.run_file.Goals as goal

pub returns-clause-ran : goal.returns-clause-ran
returns-clause-ran g c = ran_file (g.R.FileReader.may_read c.args.rt.now) _ _ c.run_on_host.result _ _ _ c.in_ok-script.ensures.ran c.run_on_host.ensures.ran
