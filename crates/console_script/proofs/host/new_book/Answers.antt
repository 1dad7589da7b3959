use Rattle.std.proofs.Common.{List, ℕ, Err, subst₂}
use Rattle.journal_model.specs.declared.limits.Limits.{Limits}
use Rattle.journal_model.specs.Book.{opened}
use Rattle.console_script.specs.BookView.{Opens}
use Rattle.console_script.proofs.Opened.{tells_none}
use Rattle.console_script.proofs.host.new_book.Goals as goal

pub returns-in-Err-clause-why : goal.returns-in-Err-clause-why
returns-in-Err-clause-why c =
    tells_none c.args.moments c.in-Err.fault c.from.result c.from.ensures
    (subst₂ (λ (devices : List (List ℕ)) (limits : Limits). Opens (opened devices limits) (Err c.in-Err.fault)) c.in_ok-devices.ensures.named c.limits.ensures c.in-Err.ensures)
