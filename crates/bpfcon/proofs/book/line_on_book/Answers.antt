use Rattle.std.specs.Prelude.{string_bytes}
use Rattle.console_input.specs.Book.{Line}
use Rattle.bpfcon.proofs.OnBook.{ran_on, ran_line, told_line, took_line}
use Rattle.bpfcon.proofs.book.line_on_book.Goals as goal

pub returns-in-Some-clause-ran : goal.returns-in-Some-clause-ran
returns-in-Some-clause-ran g c =
    told_line (g.R.Databases.may_be_there c.args.rt.now) (λ it. g.R.Databases.may_open c.args.rt.now it c.args.wait) (g.R.Databases.may_be_time c.args.rt.now) (g.R.FileReader.may_read c.args.rt.now) (g.W.Output.contents c.args.out.now) (g.W.Output.contents c.log_on_book.new.out) (string_bytes c.args.file) c.args.line.items _ _ _ c.log_on_book.result
    c.in-Some.asked (rw c.as_slice.ensures.value at c.in-Some.ensures) c.log_on_book.ensures.ran

pub returns-in-Some-range_of-clause-ran : goal.returns-in-Some-range_of-clause-ran
returns-in-Some-range_of-clause-ran g c =
    took_line (g.R.Databases.may_be_there c.args.rt.now) (λ it. g.R.Databases.may_open c.args.rt.now it c.args.wait) (g.R.Databases.may_be_time c.args.rt.now) (g.R.FileReader.may_read c.args.rt.now) (g.W.Output.contents c.args.out.now) (g.W.Output.contents c.take_on_book.new.out) (string_bytes c.args.file) c.args.line.items _ _ _ c.take_on_book.result
    c.in-Some-range_of.range (rw c.as_slice.ensures.value at c.in-None.ensures) (rw c.as_slice-2.ensures.value at c.in-Some-range_of.ensures) c.take_on_book.ensures.ran

pub returns-clause-ran : goal.returns-clause-ran
returns-clause-ran g c =
    ran_line (g.R.Databases.may_be_there c.args.rt.now) (λ it. g.R.Databases.may_open c.args.rt.now it c.args.wait) (g.R.Databases.may_be_time c.args.rt.now) (g.R.FileReader.may_read c.args.rt.now) (g.W.Output.contents c.args.out.now) (g.W.Output.contents c.run_script.new.out) (string_bytes c.args.file) c.args.line.items _ _ _ c.run_script.result
    (rw c.as_slice.ensures.value at c.in-None.ensures) (rw c.as_slice-2.ensures.value at c.in-None-range_of.ensures) (rw c.as_slice-3.ensures.value at c.in-None-look_of.ensures)
    (ran_on (g.R.Databases.may_be_there c.args.rt.now) (λ it. g.R.Databases.may_open c.args.rt.now it c.args.wait) (g.R.Databases.may_be_time c.args.rt.now) (g.R.FileReader.may_read c.args.rt.now) (g.W.Output.contents c.args.out.now) (g.W.Output.contents c.run_script.new.out) (string_bytes c.args.file) c.run_script.result
    (Line c.args.line.items) c.in_ok-script.script.text.items c.in_ok-script.script.files.items c.in_ok-script.ensures.ran c.run_script.ensures.ran)
