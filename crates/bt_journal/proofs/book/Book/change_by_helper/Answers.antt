use Rattle.std.proofs.Common.{refl}
use Rattle.journal_model.specs.Plain.{now}
use Rattle.bt_journal.proofs.ServeLemmas.{helper_so}
use Rattle.bt_journal.proofs.CallLemmas.{change_calls}
use Rattle.bt_journal.proofs.book.Book.change_by_helper.Goals as goal

pub returns-clause-told : goal.returns-clause-told
returns-clause-told g c =
    helper_so c.args.self.now.plain c.args.self.now.plain c.record_lent.new.self.plain c.args.map c.args.change.now c.is_live-live.result c.record_lent.result c.told_by_helper.result
    refl c.is_live-live.ensures c.record_lent.ensures.plain c.told_by_helper.ensures

pub returns-clause-work : goal.returns-clause-work
returns-clause-work g c =
    let b = c.args.self.now in
    change_calls (now b.plain.line) c.args.change.now c.record_lent.result b.work c.record_lent.new.self.work c.record_lent.ensures.work
