use Rattle.journal_model.specs.Plain.{now}
use Rattle.bt_journal.proofs.ServeLemmas.{pointer_so}
use Rattle.bt_journal.proofs.CallLemmas.{change_calls}
use Rattle.bt_journal.proofs.book.Book.change_by_pointer.Goals as goal

pub returns-clause-told : goal.returns-clause-told
returns-clause-told g c = pointer_so c.args.self.now.plain c.record_lent.new.self.plain c.args.change.now c.record_lent.result c.told_by_pointer.result c.record_lent.ensures.plain c.told_by_pointer.ensures

pub returns-clause-work : goal.returns-clause-work
returns-clause-work g c =
    let b = c.args.self.now in
    change_calls (now b.plain.line) c.args.change.now c.record_lent.result b.work c.record_lent.new.self.work c.record_lent.ensures.work
