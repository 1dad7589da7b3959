use Rattle.std.proofs.Common.{Option, subst}
use Rattle.bt_interp.specs.declared.end.End.{End}
use Rattle.thread_at_desk.specs.Framed.{SteppedAt}
use Rattle.thread_at_desk.proofs.Framing.{came_nowhere, came_on, came_to_end}
use Rattle.thread_at_desk.proofs.frame.finish_at.Goals as goal

pub steps-init : goal.steps-init
steps-init g c = (c.requires, came_nowhere c.args.desk.now c.args.run.now c.args.seat.now)

pub steps-preserved : goal.steps-preserved
steps-preserved g c = (
  c.step_at.ensures.seat,
  came_on c.args.desk.now c.args.run.now c.steps.run c.step_at.new.run c.args.seat.now c.steps.seat c.step_at.new.seat c.steps.invariant.1
      (subst (λ (end : Option End). SteppedAt c.args.desk.now c.steps.run end c.step_at.new.run c.steps.seat c.step_at.new.seat) c.in-Ok-None.field-0-is c.in-Ok-None.ensures.stepped),
)

pub returns-in-Ok-Some-clause-ran : goal.returns-in-Ok-Some-clause-ran
returns-in-Ok-Some-clause-ran g c =
    came_to_end c.args.desk.now c.args.run.now c.steps.run c.step_at.new.run c.args.seat.now c.steps.seat c.step_at.new.seat c.in-Ok-Some.end c.steps.invariant.1
    (subst (λ (end : Option End). SteppedAt c.args.desk.now c.steps.run end c.step_at.new.run c.steps.seat c.step_at.new.seat) c.in-Ok-Some.field-0-is c.in-Ok-Some.ensures.stepped)
