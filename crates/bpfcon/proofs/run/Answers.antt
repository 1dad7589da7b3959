use Rattle.std.proofs.Common.{inl, inr}
use Rattle.std.specs.Prelude.{⊤}
use Rattle.bpfcon.specs.Ends.{EndsRun, EndsProgram}
use Rattle.bpfcon.proofs.Ending.{may, flushed_ends}
use Rattle.bpfcon.proofs.Carrying.{flushed_so, did_asked}
use Rattle.bpfcon.proofs.run.Goals as goal

pub returns-clause-ran : goal.returns-clause-ran
returns-clause-ran g c =
    let may_be = g.R.Arguments.may_be c.args.rt.now in
    let may_name = g.R.Surroundings.may_name c.args.rt.now in
    let may_read = g.R.FileReader.may_read c.args.rt.now in
    flushed_so _ c.flush.result c.flushed.result c.answer_request-out.result.1 c.flushed.ensures
    (did_asked _ _ _ _ _ _ may_be may_name may_read c.in-Ok.request _ _ c.answer_request-out.result.1 (rw c.in-Ok.is at c.request_of_args.ensures) c.answer_request-out.ensures.ran)

pub returns-clause-only : goal.returns-clause-only
returns-clause-only g c =
    let Ends = EndsProgram (g.R.Arguments.may_be c.args.rt.now) (g.R.Surroundings.may_name c.args.rt.now) in
    flushed_ends Ends c.flush.result c.flushed.result c.answer_request-out.result.1 c.flushed.ensures (inr (inl tt)) (may (EndsRun ⊤) Ends c.answer_request-out.result.1 (λ fault ends. inr ends) c.answer_request-out.ensures.only)

pub returns-in-Err-clause-only : goal.returns-in-Err-clause-only
returns-in-Err-clause-only g c = inl (c.in-Err.fault, rw c.in-Err.is at c.request_of_args.ensures, c.of_args.ensures)
