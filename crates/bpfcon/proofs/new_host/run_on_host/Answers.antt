-- Every box is a new map, on a book just opened.
use Rattle.console_script.specs.Made.{AllGetNew}
use Rattle.console_script.proofs.Supplied.{all_get_new}
use Rattle.console_script.specs.Host.{device_names, limits}
use Rattle.console_script.proofs.OnNewHost.{ran_on_new}
use Rattle.bpfcon.proofs.new_host.run_on_host.Goals as goal

pub returns-clause-ran : goal.returns-clause-ran
returns-clause-ran g c =
    ran_on_new (g.W.Output.contents c.args.out.now) (g.W.Output.contents c.run_lines-ran.new.out) device_names limits _ AllGetNew c.args.script.now.files.items c.args.script.now.text.items c.in-Ok.book.plain c.run_lines-ran.new.book.plain
    c.run_lines-ran.result (λ run. all_get_new _ _ (λ from attr told to it. it) _ _ run) c.in-Ok.ensures.opens c.run_lines-ran.ensures.ran
