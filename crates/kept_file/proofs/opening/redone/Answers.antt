use Rattle.std.proofs.Common.{sym, subst}
use Rattle.journal_model.specs.Book.{PlainBook}
use Rattle.kept_book.specs.Leading.{LeadTo}
use Rattle.kept_book.specs.Redone.{StopsAt}
use Rattle.kept_file.specs.Faults.{TellsWhy}
use Rattle.kept_file.proofs.OpenedLemmas.{told_stop}
use Rattle.kept_file.proofs.opening.redone.Goals as goal

pub returns-in-Ok : goal.returns-in-Ok
returns-in-Ok g c t is = subst (λ (b : PlainBook). LeadTo b c.args.events.items c.redo_events.new.book.plain) is c.in-Ok.ensures

pub returns-in-Err : goal.returns-in-Err
returns-in-Err g c t is =
    subst (TellsWhy t c.args.events.items) (sym c.stop_fault.ensures)
    (told_stop t c.args.events.items c.in-Err.stop c.redo_events.new.book.plain (subst (λ (b : PlainBook). StopsAt b c.args.events.items c.in-Err.stop c.redo_events.new.book.plain) is c.in-Err.ensures))
