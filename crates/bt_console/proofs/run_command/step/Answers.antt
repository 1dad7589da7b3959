use Rattle.std.proofs.Common.{◌∙◌, sym, subst}
use Rattle.bt_syntax.specs.declared.run.RunCommand.TheVariants.{Step}
use Rattle.bt_console.specs.Commands.{RunGoes}
use Rattle.bt_console.specs.Frames.{console_of, step_answer}
use Rattle.bt_console.proofs.Opened.{stands_at, no_such_run, a_step}
use Rattle.bt_console.proofs.run_command.step.Goals as goal

pub returns-in_default : goal.returns-in_default
returns-in_default g c = no_such_run (console_of c.args.book.now.plain c.args.runs.now) c.args.number (sym c.find.ensures ∙ c.in_default.is)

pub step-requires-after_bounds : goal.step-requires-after_bounds
step-requires-after_bounds g c κs within = (stands_at c.args.number c.args.runs.now.runs c.in-Some.place (sym c.find.ensures ∙ c.in-Some.is)).within

pub returns-in-None : goal.returns-in-None
returns-in-None g c =
    let s = console_of c.args.book.now.plain c.args.runs.now in
    subst (λ end. RunGoes s (Step c.args.number) (console_of c.step.new.book.plain c.step.new.self, step_answer c.args.number end)) c.in-None.is
    (a_step s c.step.new.book.plain c.step.new.self c.args.number c.in-Some.place c.step.result c.step.ensures.0 (sym c.find.ensures ∙ c.in-Some.is) c.step.ensures.1)

pub returns-in-Some-step : goal.returns-in-Some-step
returns-in-Some-step g c =
    let s = console_of c.args.book.now.plain c.args.runs.now in
    subst (λ end. RunGoes s (Step c.args.number) (console_of c.step.new.book.plain c.step.new.self, step_answer c.args.number end)) c.in-Some-step.is
    (a_step s c.step.new.book.plain c.step.new.self c.args.number c.in-Some.place c.step.result c.step.ensures.0 (sym c.find.ensures ∙ c.in-Some.is) c.step.ensures.1)
