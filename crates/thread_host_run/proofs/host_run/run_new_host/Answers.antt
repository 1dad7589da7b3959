use Rattle.thread_host_run.proofs.Ending.{ran_anew}
use Rattle.thread_host_run.proofs.host_run.run_new_host.Goals as goal

pub returns-clause-ran : goal.returns-clause-ran
returns-clause-ran g c = ran_anew _ _ c.args.devices.items c.args.limits c.args.script.now.files.items c.args.script.now.text.items c.args.frames.now _ _ c.run_with_new_maps.result c.in_ok-book.was c.new.ensures c.run_with_new_maps.ensures.ran
