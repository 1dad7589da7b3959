use Rattle.bt_console.proofs.Framed.{came_nowhere, came_on, came_to_end}
use Rattle.bt_console.proofs.frame.finish.Goals as goal

pub steps-init : goal.steps-init
steps-init g c = came_nowhere c.args.book.now.plain c.args.run.now

pub steps-preserved : goal.steps-preserved
steps-preserved g c =
    came_on c.args.book.now.plain c.steps.book.plain c.step_in.new.book.plain c.args.run.now c.steps.run c.step_in.new.run c.step_in.result c.steps.invariant c.step_in.ensures.does.0 c.step_in.ensures.does.1 c.in_default.is

pub returns-in-Some : goal.returns-in-Some
returns-in-Some g c =
    came_to_end c.args.book.now.plain c.steps.book.plain c.step_in.new.book.plain c.args.run.now c.steps.run c.step_in.new.run c.step_in.result c.in-Some.end c.steps.invariant c.step_in.ensures.does.0 c.step_in.ensures.does.1 c.in-Some.is
