use Rattle.std.proofs.Common.{sym, subst}
use Rattle.bt_journal.specs.Returning.{LeadsBack}
use Rattle.bt_journal.proofs.ReturningLemmas.{leads_back}
use Rattle.bt_journal.proofs.book.Book.undo_to.Goals as goal

pub returns-clause-mark : goal.returns-clause-mark
returns-clause-mark g c =
    let b = c.args.self.now.plain in
    subst (LeadsBack b c.args.name.now) (sym c.undo_to_mark.ensures.plain) (leads_back b c.args.name.now)
