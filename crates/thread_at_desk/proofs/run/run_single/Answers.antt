use Rattle.std.proofs.Common.{sym, subst}
use Rattle.console_script.specs.Frames.{Console, console_of}
use Rattle.console_script.proofs.Evented.{one_event}
use Rattle.bt_desk.specs.Events.{IsOneEvent}
use Rattle.bt_desk.proofs.Visiting.{is_one_event}
use Rattle.console_answer.specs.declared.answer.Answer.{Answer}
use Rattle.thread_at_desk.proofs.run.run_single.Goals as goal

pub returns-clause-one : goal.returns-clause-one
returns-clause-one g c =
    let ran = c.run_supplied.ensures in
    let b = c.args.book.now.plain in
    let one = one_event (console_of b c.args.session.now.runs) ran.course c.args.command ran.blank c.requires in
    subst (λ (made : Console × Answer). IsOneEvent b made.0.book) (sym ran.is) (is_one_event b _ one.given one.book)
