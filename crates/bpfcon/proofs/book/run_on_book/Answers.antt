use Rattle.std.proofs.Common.{inr}
use Rattle.std.specs.Prelude.{string_bytes}
use Rattle.console_input.specs.Book.{Input, Script}
use Rattle.bpfcon.specs.Ends.{EndsBook, EndsServed}
use Rattle.bpfcon.proofs.Ending.{may}
use Rattle.bpfcon.proofs.OnBook.{ran_on}
use Rattle.bpfcon.proofs.book.run_on_book.Goals as goal

pub returns-in-Line-clause-ran : goal.returns-in-Line-clause-ran
returns-in-Line-clause-ran g c = rw c.in-Line.is c.line_on_book.ensures.ran

pub returns-in_ok-script-in-Input-clause-ran : goal.returns-in_ok-script-in-Input-clause-ran
returns-in_ok-script-in-Input-clause-ran g c =
    rw c.in-Input.is
    (ran_on (g.R.Databases.may_be_there c.args.rt.now) (λ it. g.R.Databases.may_open c.args.rt.now it c.args.order.wait) (g.R.Databases.may_be_time c.args.rt.now) (g.R.FileReader.may_read c.args.rt.now) (g.W.Output.contents c.args.out.now) (g.W.Output.contents c.run_script.new.out) (string_bytes c.args.order.file) c.run_script.result
    Input c.in_ok-script-in-Input.script.text.items c.in_ok-script-in-Input.script.files.items c.in_ok-script-in-Input.ensures.ran c.run_script.ensures.ran)

pub returns-in_ok-script-in-Script-clause-ran : goal.returns-in_ok-script-in-Script-clause-ran
returns-in_ok-script-in-Script-clause-ran g c =
    rw c.in-Script.is
    (ran_on (g.R.Databases.may_be_there c.args.rt.now) (λ it. g.R.Databases.may_open c.args.rt.now it c.args.order.wait) (g.R.Databases.may_be_time c.args.rt.now) (g.R.FileReader.may_read c.args.rt.now) (g.W.Output.contents c.args.out.now) (g.W.Output.contents c.run_script-in-Script.new.out) (string_bytes c.args.order.file) c.run_script-in-Script.result
    (Script (string_bytes c.in-Script.path)) c.in_ok-script-in-Script.script.text.items c.in_ok-script-in-Script.script.files.items (rw c.as_str.ensures.value at c.in_ok-script-in-Script.ensures.ran) c.run_script-in-Script.ensures.ran)

pub returns-in-Host-clause-ran : goal.returns-in-Host-clause-ran
returns-in-Host-clause-ran g c = rw (c.in-Host.is, ← c.as_str-path.ensures.value, ← c.as_str-frames.ensures.value) c.serve_on_book.ensures.ran

pub returns-in-Line-clause-only : goal.returns-in-Line-clause-only
returns-in-Line-clause-only g c = may (EndsBook _) (EndsServed _) c.line_on_book.result (λ fault ends. inr ends) c.line_on_book.ensures.only

pub returns-in_ok-script-in-Input-clause-only : goal.returns-in_ok-script-in-Input-clause-only
returns-in_ok-script-in-Input-clause-only g c = may (EndsBook _) (EndsServed _) c.run_script.result (λ fault ends. inr ends) c.run_script.ensures.only

pub returns-in_ok-script-in-Script-clause-only : goal.returns-in_ok-script-in-Script-clause-only
returns-in_ok-script-in-Script-clause-only g c = may (EndsBook _) (EndsServed _) c.run_script-in-Script.result (λ fault ends. inr ends) c.run_script-in-Script.ensures.only

pub returns-in-Shell-clause-only : goal.returns-in-Shell-clause-only
returns-in-Shell-clause-only g c = may (EndsBook _) (EndsServed _) c.talk_on_book.result (λ fault ends. inr ends) c.talk_on_book.ensures.only
