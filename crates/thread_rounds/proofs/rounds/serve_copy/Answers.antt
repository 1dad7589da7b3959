use Rattle.std.proofs.Common.{[], ◌∷◌, subst}
use Rattle.bt_workers.specs.Worked.{ServesFrames}
use Rattle.thread_rounds.specs.Rounds.{ending}
use Rattle.thread_rounds.proofs.Copies.{serves_copy}
use Rattle.thread_rounds.proofs.rounds.serve_copy.Goals as goal

pub returns-in-Ok-clause-served : goal.returns-in-Ok-clause-served
returns-in-Ok-clause-served g c =
    let served = c.serve.ensures.served in
    subst (λ number. ServesFrames c.args.frames.now c.args.seat.now (ending number c.serve.result ∷ []) c.serve.new.seat) c.in-Ok.ensures.number
    (serves_copy c.args.frames.now c.in-Ok.it c.args.seat.now c.serve.new.seat served.0 c.serve.result c.in-Ok.ensures.copy served.1 served.2)
