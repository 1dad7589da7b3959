use Rattle.std.proofs.Common.{subst}
use Rattle.journal_model.specs.Well.{IsWellBook}
use Rattle.bt_journal.specs.BookView.{BookView}
use Rattle.bt_journal.proofs.book.Book.is_well.Goals as goal

pub returns : goal.returns
returns g c = subst (λ (v : BookView). IsWellBook v.plain) c.self.view_is c.self.invariant.2
