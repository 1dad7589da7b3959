use Rattle.std.proofs.Common.{sym, ◌∙◌, ap, subst}
use Rattle.journal_model.specs.declared.faults.WithoutFault.TheVariants.{NoMemory}
use Rattle.journal_model.specs.Book.{OrNoMemory}
use Rattle.journal_model.specs.Without.{taken_out}
use Rattle.journal_model.specs.Plain.{newest_force}
use Rattle.host_state.specs.Work.{CallsAtMost}
use Rattle.bt_without.specs.Calls.{calls_without}
use Rattle.bt_without.proofs.CallLemmas.{calls_of_serial}
use Rattle.bt_without.proofs.EventLemmas.{without_is_step}
use Rattle.bt_without.proofs.events.taken_out.Goals as goal

pub returns-clause-stepped : goal.returns-clause-stepped
returns-clause-stepped g c =
    let old = c.args.book.now.plain in
    let new = c.without.new.book.plain in
    without_is_step g.K.MapKind.seen old new c.args.serial c.serial_of.result
    (subst (λ r. OrNoMemory old NoMemory (taken_out old c.args.serial) (new, r)) (sym c.serial_of.ensures) c.without.ensures.taken.0)

pub returns-clause-work : goal.returns-clause-work
returns-clause-work g c =
    let book = c.args.book.now in
    let line = book.plain.line in
    subst (λ n. CallsAtMost n book.work c.without.new.book.work)
    (sym (calls_of_serial c.without.result c.args.serial line.base (newest_force line.moments)) ∙ ap (λ r. calls_without r c.args.serial line.base (newest_force line.moments)) (sym c.serial_of.ensures))
    c.without.ensures.work
