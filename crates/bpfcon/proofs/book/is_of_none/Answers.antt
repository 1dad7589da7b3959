use Rattle.std.proofs.Common.{inl, subst}
use Rattle.bpfcon.proofs.OnBook.{asks_none}
use Rattle.bpfcon.proofs.book.is_of_none.Goals as goal

pub returns-then-is_there-clause-ran : goal.returns-then-is_there-clause-ran
returns-then-is_there-clause-ran g c = inl (subst (g.R.Databases.may_be_there c.args.rt.now c.args.file.now) c.if-is_there.true c.is_there.ensures)

pub returns-in-Ok-clause-ran : goal.returns-in-Ok-clause-ran
returns-in-Ok-clause-ran g c =
    asks_none (g.R.Databases.may_be_there c.args.rt.now c.args.file.now) c.args.script.now.text.items c.in-Ok.asks (rw c.as_slice.ensures.value at c.in-Ok.ensures)
    (subst (g.R.Databases.may_be_there c.args.rt.now c.args.file.now) c.if-is_there.false c.is_there.ensures)
