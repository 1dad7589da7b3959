use Rattle.std.proofs.Common.{refl}
use Rattle.bt_journal.proofs.ServeLemmas.{peek_so}
use Rattle.bt_journal.proofs.book.Book.peek.Goals as goal

pub returns-clause-told : goal.returns-clause-told
returns-clause-told g c =
    peek_so c.args.self.now.plain c.args.self.now.plain c.args.map c.is_live-live.result c.in_ok-item.item c.peek_told.result
    refl c.is_live-live.ensures c.in_ok-item.ensures.answer c.peek_told.ensures
