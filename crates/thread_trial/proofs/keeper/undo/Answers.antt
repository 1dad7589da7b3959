use Rattle.std.proofs.Common.{subst}
use Rattle.thread_trial.specs.Kept.{Undoes}
use Rattle.thread_trial.proofs.Keeping.{undoes_by}
use Rattle.thread_trial.proofs.keeper.undo.Goals as goal

pub returns-clause-undone : goal.returns-clause-undone
returns-clause-undone g c =
    subst (λ name. Undoes name c.args.seat.now c.call.new.seat) c.args.trial.same
    (undoes_by g.K.MapKind.seen c.args.trial.spare c.args.seat.now c.call.new.seat c.call.result c.call.ensures.spent c.call.ensures.unchanged c.call.ensures.called)
