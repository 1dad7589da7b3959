use Rattle.std.proofs.Common.{sym, ◌∙◌, ap, subst}
use Rattle.kept_event.specs.declared.event.KeptEvent.TheVariants as kept
use Rattle.kept_book.specs.Leading.{box_of, is_recorded_as}
use Rattle.kept_book.specs.Redone.{IsRedone, recording_misfit, judged}
use Rattle.kept_book.proofs.RedoneLemmas.{record_redone, unmade_redone}
use Rattle.kept_book.proofs.redoing.redo_change.Goals as goal

pub returns-in-Ok : goal.returns-in-Ok
returns-in-Ok g c =
    let b = c.args.book.now.plain in
    let new = c.record.new.self.plain in
    subst (λ r. IsRedone b (kept.Changed c.args.serial c.args.change) r new)
    (sym (c.judged_record.ensures ∙ ap (λ o. judged (is_recorded_as c.args.serial o) recording_misfit c.record.result) c.new_object-object.ensures))
    (record_redone b new c.args.serial c.args.change c.record.result (c.record.ensures.plain (box_of c.args.change) c.in-Ok.ensures))

pub returns-in-Err : goal.returns-in-Err
returns-in-Err g c = unmade_redone g.K.MapKind.seen c.args.book.now.plain c.args.serial c.args.change c.in-Err.misfit c.in-Err.ensures
