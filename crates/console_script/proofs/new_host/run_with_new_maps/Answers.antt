-- Every box is a new map.
use Rattle.console_script.specs.Supplied.{AreSupplied}
use Rattle.console_script.specs.Made.{AllGetNew}
use Rattle.console_script.proofs.Supplied.{all_get_new, runs_with}
use Rattle.console_script.proofs.new_host.run_with_new_maps.Goals as goal

pub returns-clause-ran : goal.returns-clause-ran
returns-clause-ran g c =
    runs_with (g.W.Output.contents c.args.out.now) (g.W.Output.contents c.run_on_new_book.new.out) c.args.devices.items c.args.limits
    (λ run. AreSupplied g.S.Supply.gives g.K.MapKind.seen c.args.supply.now run c.run_on_new_book.new.supply) AllGetNew c.args.script.now.files.items c.args.script.now.text.items c.run_on_new_book.result
    (λ run. all_get_new g.S.Supply.gives g.K.MapKind.seen c.requires c.args.supply.now c.run_on_new_book.new.supply run) c.run_on_new_book.ensures.ran
