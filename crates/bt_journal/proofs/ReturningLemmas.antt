-- An undo to a mark gives what was there when the mark was made: the law, of the book as it is now.
use Rattle.std.proofs.Common.{ℕ, List, [], subst}
use Rattle.journal_model.specs.Book.{PlainBook, undone_to}
use Rattle.journal_model.specs.Run.{Mark, bookstep, book_after}
use Rattle.journal_laws.specs.Laws.{given_up_in, ComesBack}
use Rattle.journal_laws.proofs.Returning.{returns_to_mark}
use Rattle.bt_journal.specs.Returning.{IsBackAt, LeadsBack}

pub leads_back : (b : PlainBook) (name : List ℕ) → LeadsBack b name (undone_to b name)
leads_back b name = λ earlier refused since made stands is.
    let gone : List ℕ = given_up_in (bookstep refused earlier (Mark name)).0 since in
    let back : ComesBack name gone earlier (book_after (bookstep refused earlier (Mark name)).0 since) = returns_to_mark earlier [] refused name since made stands in
    subst (λ (c : PlainBook). IsBackAt gone earlier (undone_to c name)) is
    (record { undone = back.undone; accepted = back.accepted; state = back.state; force = back.force; moments = back.moments })
