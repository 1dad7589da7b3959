use Rattle.std.proofs.Common.{◌∙◌, ap, sym, subst, false, Some}
use Rattle.bt_console.specs.Frames.{stopped}
use Rattle.bt_console.proofs.Framed.{ended_so}
use Rattle.bt_console.proofs.Stepping.{MoreIfOn, steps_on}
use Rattle.bt_console.proofs.frame.step_in.Goals as goal

pub returns-in-Ok-clause-does : goal.returns-in-Ok-clause-does
returns-in-Ok-clause-does g c =
    (c.answer.ensures.does.0, c.answer.ensures.does.1 ∙ ap (stopped c.answer.ensures.does.0 c.args.book.now.plain) c.in-Ok.ensures.asks)

pub returns-in-Ok-clause-more : goal.returns-in-Ok-clause-more
returns-in-Ok-clause-more g c =
    let asks = c.in-Ok.ensures.asks in
    subst (MoreIfOn c.args.run.now) (sym (c.answer.ensures.does.1 ∙ ap (stopped c.answer.ensures.does.0 c.args.book.now.plain) asks))
    (steps_on c.answer.ensures.does.0 c.args.book.now.plain c.args.run.now _ _ asks)

pub returns-in-Err-clause-does : goal.returns-in-Err-clause-does
returns-in-Err-clause-does g c =
    (false, ap (λ run. (c.args.book.now.plain, run, Some c.in-Err.end)) c.next_access.ensures.goes ∙ ended_so false c.args.book.now.plain _ c.in-Err.end c.in-Err.ensures.ends)
