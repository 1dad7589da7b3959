-- A book was opened, and the script ran on it.
use Rattle.console_script.specs.Supplied.{AreSupplied}
use Rattle.console_script.proofs.Opened.{ran_anew, stopped_anew}
use Rattle.console_script.proofs.new_host.run_on_new_book.Goals as goal

pub returns-in-Ok-clause-ran : goal.returns-in-Ok-clause-ran
returns-in-Ok-clause-ran g c =
    ran_anew (g.W.Output.contents c.args.out.now) (g.W.Output.contents c.run_script-ran.new.out) c.args.devices.items c.args.limits
    (λ run. AreSupplied g.S.Supply.gives g.K.MapKind.seen c.args.supply.now run c.run_script-ran.new.supply) c.args.script.now.files.items c.args.script.now.text.items c.new.result c.in_ok-book.book c.run_script-ran.new.book.plain c.run_script-ran.result
    c.in-Ok.summary c.in_ok-book.was c.new.ensures c.in-Ok.is c.run_script-ran.ensures.ran

pub returns-in-Err-clause-ran : goal.returns-in-Err-clause-ran
returns-in-Err-clause-ran g c =
    stopped_anew (g.W.Output.contents c.args.out.now) (g.W.Output.contents c.run_script-ran.new.out) c.args.devices.items c.args.limits
    (λ run. AreSupplied g.S.Supply.gives g.K.MapKind.seen c.args.supply.now run c.run_script-ran.new.supply) c.args.script.now.files.items c.args.script.now.text.items c.new.result c.in_ok-book.book c.run_script-ran.new.book.plain c.run_script-ran.result
    _ c.in_ok-book.was c.new.ensures c.in-Err.is c.run_script-ran.ensures.ran
