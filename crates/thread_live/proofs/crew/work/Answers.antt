use Rattle.std.proofs.Common.{refl}
use Rattle.thread_live.proofs.Manning.{works_by}
use Rattle.thread_live.proofs.crew.work.Goals as goal

pub returns-clause-works : goal.returns-clause-works
returns-clause-works g c = works_by c.args.traffic.now c.args.number _ _ _ c.args.seat c.serve_rounds-place.new.seat c.as_slice.ensures.value refl refl c.serve_rounds-place.ensures.served
