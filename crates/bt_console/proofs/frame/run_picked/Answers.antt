use Rattle.std.proofs.Common.{◌∙◌, sym, ap, subst, Ok, Err, Some}
use Rattle.bt_interp.specs.Runs.{started}
use Rattle.bt_console.specs.Frames.{begun_with, RunsFrom}
use Rattle.bt_console.proofs.Framed.{frame_ran, frame_at_none, frame_at_fault}
use Rattle.bt_console.proofs.frame.run_picked.Goals as goal

pub returns-in-Ok-Some : goal.returns-in-Ok-Some
returns-in-Ok-Some g c =
    subst (λ answer. RunsFrom c.args.book.now.plain (begun_with c.args.bytes c.args.picked) (c.finish.new.book.plain, answer)) (sym c.ended.ensures)
    (frame_ran c.args.book.now.plain c.finish.new.book.plain (begun_with c.args.bytes c.args.picked) c.start_in-run.result.now c.finish.ensures.0 c.finish.result
    (ap (begun_with c.args.bytes) (c.in-Ok-Some.is ∙ ap Ok c.in-Ok-Some.field-0-is) ∙ ap (λ it. Ok (Some it)) (ap (started c.in-Ok-Some.program c.in-Ok-Some.ifindex) (sym c.into_vec.ensures.value) ∙ sym c.start_in-run.ensures)) c.finish.ensures.1)

pub returns-in-Ok-None : goal.returns-in-Ok-None
returns-in-Ok-None g c =
    subst (λ answer. RunsFrom c.args.book.now.plain (begun_with c.args.bytes c.args.picked) (c.args.book.now.plain, answer)) (sym c.ended-in-Ok-None.ensures)
    (frame_at_none c.args.book.now.plain (begun_with c.args.bytes c.args.picked) (ap (begun_with c.args.bytes) (c.in-Ok-None.is ∙ ap Ok c.in-Ok-None.field-0-is)))

pub returns-in-Err : goal.returns-in-Err
returns-in-Err g c =
    subst (λ answer. RunsFrom c.args.book.now.plain (begun_with c.args.bytes c.args.picked) (c.args.book.now.plain, answer)) (sym c.refused.ensures)
    (frame_at_fault c.args.book.now.plain (begun_with c.args.bytes c.args.picked) c.of_start.result (ap (begun_with c.args.bytes) c.in-Err.is ∙ ap Err (sym c.of_start.ensures)))
