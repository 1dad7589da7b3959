use Rattle.thread_trial.specs.Kept.{still}
use Rattle.thread_trial.proofs.Keeping.{kept_undo}
use Rattle.thread_trial.proofs.keeper.give_back.Goals as goal

pub returns-in-Some-clause-kept : goal.returns-in-Some-clause-kept
returns-in-Some-clause-kept g c = kept_undo c.args.desk.now c.args.seat.now c.args.seat.now c.undo.new.seat c.in-Some.trial.name c.undo.ensures.undone still

pub returns-in-None-clause-kept : goal.returns-in-None-clause-kept
returns-in-None-clause-kept g c = still
