use Rattle.std.proofs.Common.{subst}
use Rattle.std.specs.Prelude.{string_bytes}
use Rattle.bpfcon.proofs.OnBook.{took_on, taken_anew}
use Rattle.bpfcon.proofs.range.take_on_book.Goals as goal

pub returns-then-not-is_there-clause-ran : goal.returns-then-not-is_there-clause-ran
returns-then-not-is_there-clause-ran g c =
    taken_anew (g.R.Databases.may_be_there c.args.rt.now (string_bytes c.args.file)) _ _ c.args.range _ _ c.refuse.result (subst (g.R.Databases.may_be_there c.args.rt.now (string_bytes c.args.file)) c.if-not-is_there.true (rw c.as_str.ensures.value at c.is_there.ensures)) c.refuse.ensures.refuses

pub returns-in-Ok-clause-ran : goal.returns-in-Ok-clause-ran
returns-in-Ok-clause-ran g c =
    took_on (g.R.Databases.may_be_there c.args.rt.now (string_bytes c.args.file)) (g.R.Databases.may_open c.args.rt.now (string_bytes c.args.file) c.args.wait) (g.R.Databases.may_be_time c.args.rt.now) c.args.range (g.W.Output.contents c.args.out.now) (g.W.Output.contents c.take_at.new.out)
    (subst (g.R.Databases.may_be_there c.args.rt.now (string_bytes c.args.file)) c.if-not-is_there.false (rw c.as_str.ensures.value at c.is_there.ensures)) c.in-Ok.taken (rw (c.as_str-2.ensures.value, c.in_ok-terms.ensures) at c.in-Ok.ensures) c.counts.result c.counts.ensures
