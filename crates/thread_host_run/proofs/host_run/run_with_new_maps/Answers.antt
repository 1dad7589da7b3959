-- Every box is a new map.
use Rattle.console_script.specs.Supplied.{AreSupplied}
use Rattle.console_script.specs.Made.{AllGetNew}
use Rattle.console_script.proofs.Supplied.{all_get_new}
use Rattle.thread_host_run.proofs.Supplied.{runs_with}
use Rattle.thread_host_run.proofs.host_run.run_with_new_maps.Goals as goal

pub returns-clause-ran : goal.returns-clause-ran
returns-clause-ran g c =
    runs_with (g.W.Output.contents c.args.out.now) (g.W.Output.contents c.run_host.new.out) c.args.book.plain
    (λ run. AreSupplied g.S.Supply.gives g.K.MapKind.seen c.args.supply.now run c.run_host.new.supply) AllGetNew c.args.script.now.files.items c.args.script.now.text.items c.args.frames.now
    (λ run. all_get_new g.S.Supply.gives g.K.MapKind.seen c.requires c.args.supply.now c.run_host.new.supply run) c.run_host.result c.run_host.ensures.ran
