use Rattle.std.proofs.Common.{inl, subst}
use Rattle.std.specs.Prelude.{string_bytes}
use Rattle.bpfcon.proofs.OnBook.{looked_anew}
use Rattle.bpfcon.proofs.book.look_on_book.Goals as goal

pub returns-then-not-is_there-clause-ran : goal.returns-then-not-is_there-clause-ran
returns-then-not-is_there-clause-ran g c =
    looked_anew (g.R.Databases.may_be_there c.args.rt.now (string_bytes c.args.file)) _ _ _ _ c.look_anew.result (subst (g.R.Databases.may_be_there c.args.rt.now (string_bytes c.args.file)) c.if-not-is_there.true (rw c.as_str.ensures.value at c.is_there.ensures)) c.look_anew.ensures.ran

pub returns-in-Ok-clause-ran : goal.returns-in-Ok-clause-ran
returns-in-Ok-clause-ran g c =
    inl (subst (g.R.Databases.may_be_there c.args.rt.now (string_bytes c.args.file)) c.if-not-is_there.false (rw c.as_str.ensures.value at c.is_there.ensures), rw (c.as_str-2.ensures.value, c.in_ok-terms.ensures) at c.in-Ok.ensures)
