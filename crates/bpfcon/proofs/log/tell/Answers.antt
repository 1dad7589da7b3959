use Rattle.std.proofs.Common.{inl, inr, refl, subst}
use Rattle.std.specs.Prelude.{string_bytes}
use Rattle.bpfcon.proofs.log.tell.Goals as goal

pub returns-then-not-is_there-clause-ran : goal.returns-then-not-is_there-clause-ran
returns-then-not-is_there-clause-ran g c = record {
  told = inr (subst (g.R.Databases.may_be_there c.args.rt.now (string_bytes c.args.file)) c.if-not-is_there.true (rw c.as_str.ensures.value at c.is_there.ensures), refl);
  counts = refl;
}

pub returns-in-Ok-clause-ran : goal.returns-in-Ok-clause-ran
returns-in-Ok-clause-ran g c = record {
  told = inl (subst (g.R.Databases.may_be_there c.args.rt.now (string_bytes c.args.file)) c.if-not-is_there.false (rw c.as_str.ensures.value at c.is_there.ensures), rw c.as_str-2.ensures.value at c.in-Ok.ensures);
  counts = refl;
}
