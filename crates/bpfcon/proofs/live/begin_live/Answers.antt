-- The script was run on a new host, before the workers and the console began.
use Rattle.std.proofs.Common.{◌≡◌, Ok, sym, subst}
use Rattle.journal_model.specs.Book.{opened}
use Rattle.console_script.specs.Made.{AllGetNew}
use Rattle.console_script.proofs.Supplied.{all_get_new}
use Rattle.console_script.specs.Host.{device_names, limits_of}
use Rattle.bpfcon.specs.Live.{BeganLive}
use Rattle.console_script.proofs.OnNewHost.{with_boxes}
use Rattle.bpfcon.proofs.live.begin_live.Goals as goal

pub returns-in-Ok-run_lines-clause-began : goal.returns-in-Ok-run_lines-clause-began
returns-in-Ok-run_lines-clause-began g c =
    let book = c.in-Ok.book.plain in
    let options = c.args.live.now.options in
    let old = g.W.Output.contents c.args.out.now in
    let new = g.W.Output.contents c.run_lines.new.out in
    let files = c.args.script.now.files.items in
    let text = c.args.script.now.text.items in
    subst (λ counts. BeganLive old new options files text c.args.frames.now c.run_lines.new.book.plain c.in_ok-traffic.traffic counts) (sym c.new-operator.ensures.summary) (record {
      in_file = c.in_ok-traffic.ensures.ran;
      book = book;
      opens = subst (λ moments. opened device_names (limits_of moments) ≡ Ok book) c.from-journal.ensures c.in-Ok.ensures.opens;
      ran = with_boxes old new device_names (limits_of options.journal) _ AllGetNew files text book c.run_lines.new.book.plain c.in-Ok-run_lines.summary
          (λ run. all_get_new _ _ (λ from attr told to it. it) _ _ run) (rw c.in-Ok-run_lines.is at c.run_lines.ensures.ran);
    })
