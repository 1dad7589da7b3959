use Rattle.thread_trial.specs.Kept.{looked}
use Rattle.thread_trial.proofs.Keeping.{kept_still, kept_undo}
use Rattle.thread_trial.proofs.trials.Standing.look.Goals as goal

pub returns-in_default-clause-kept : goal.returns-in_default-clause-kept
returns-in_default-clause-kept g c = λ first kept. kept

pub returns-then-since-most_moments-clause-kept : goal.returns-then-since-most_moments-clause-kept
returns-then-since-most_moments-clause-kept g c =
    λ first kept. looked c.in-Some.trial.name c.in-Ok-Some.field-0 c.args.seat.now c.since_at.new.seat kept c.in-Ok-Some.ensures.looked

pub returns-else-not-is_due-clause-kept : goal.returns-else-not-is_due-clause-kept
returns-else-not-is_due-clause-kept g c =
    λ first kept. kept_undo c.args.desk.now first c.since_at.new.seat c.undo.new.seat c.in-Some.trial.name c.undo.ensures.undone
    (looked c.in-Some.trial.name c.in-Ok-Some.field-0 c.args.seat.now c.since_at.new.seat kept c.in-Ok-Some.ensures.looked)

pub returns-in-Ok-None-clause-kept : goal.returns-in-Ok-None-clause-kept
returns-in-Ok-None-clause-kept g c =
    λ first kept. looked c.in-Some.trial.name c.in-Ok-None.field-0 c.args.seat.now c.since_at.new.seat kept c.in-Ok-None.ensures.looked

pub returns-in-Err-clause-kept : goal.returns-in-Err-clause-kept
returns-in-Err-clause-kept g c = λ first. kept_still c.args.desk.now first c.args.seat.now c.since_at.new.seat c.in-Err.ensures.spent
