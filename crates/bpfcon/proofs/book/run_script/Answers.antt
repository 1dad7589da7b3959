use Rattle.std.proofs.Common.{inl, subst}
use Rattle.std.specs.Prelude.{string_bytes}
use Rattle.bpfcon.specs.Book.{IsOfNone}
use Rattle.bpfcon.proofs.OnBook.{ran_anew}
use Rattle.bpfcon.proofs.book.run_script.Goals as goal

pub returns-then-branch-clause-ran : goal.returns-then-branch-clause-ran
returns-then-branch-clause-ran g c =
    ran_anew (g.R.Databases.may_be_there c.args.rt.now (string_bytes c.args.file)) (g.R.Databases.may_open c.args.rt.now (string_bytes c.args.file) c.args.wait) (g.R.Databases.may_be_time c.args.rt.now) (g.W.Output.contents c.args.out.now) (g.W.Output.contents c.run_on_host.new.out) c.run_on_host.result c.args.script.now.text.items c.args.script.now.files.items
    (subst (IsOfNone (g.R.Databases.may_be_there c.args.rt.now (string_bytes c.args.file)) c.args.script.now.text.items) c.if-branch.true (rw c.as_str.ensures.value at c.in_ok-is_of_none.ensures.ran)) c.run_on_host.ensures.ran

pub returns-in-Ok-clause-ran : goal.returns-in-Ok-clause-ran
returns-in-Ok-clause-ran g c =
    inl (subst (IsOfNone (g.R.Databases.may_be_there c.args.rt.now (string_bytes c.args.file)) c.args.script.now.text.items) c.if-branch.false (rw c.as_str.ensures.value at c.in_ok-is_of_none.ensures.ran), rw (c.as_str-path.ensures.value, c.in_ok-terms.ensures) at c.in-Ok.ensures)
