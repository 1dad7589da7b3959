-- An undo to a mark gives what was there when the mark was made.
use Rattle.std.specs.Prelude.{◌≡◌, ℕ, Bool, List, Result, Ok}
use Rattle.journal_model.specs.declared.faults.UndoFault.{UndoFault}
use Rattle.journal_model.specs.Plain.{now, newest_force}
use Rattle.journal_model.specs.Book.{PlainBook, state_of, force_of}
use Rattle.journal_model.specs.Run.{Mark, Marked, Given, bookstep, book_after}
use Rattle.journal_laws.specs.Laws.{StandsThrough, given_up_in, let_go}

-- it is accepted, and gives the state, the changes in force and the moments of an earlier book, less what was given up since
pub record IsBackAt (gone : List ℕ) (earlier : PlainBook) (did : PlainBook × Result ℕ UndoFault) : Type 0 where
  pub undone : ℕ
  pub accepted : did.1 ≡ Ok undone
  pub state : state_of did.0 ≡ now (let_go gone earlier.line)
  pub force : force_of did.0 ≡ newest_force (let_go gone earlier.line).moments
  pub moments : did.0.line.moments ≡ (let_go gone earlier.line).moments

-- if a mark was made and stood through all events since, this leads back to the book that it was made in
abbrev pub LeadsBack : PlainBook → List ℕ → PlainBook × Result ℕ UndoFault → Type 0
LeadsBack b name did =
    (earlier : PlainBook) (refused : Bool) (since : List Given) →
    let making = bookstep refused earlier (Mark name) in
    making.1 ≡ Marked (Ok tt) → StandsThrough name making.0 since → book_after making.0 since ≡ b →
    IsBackAt (given_up_in making.0 since) earlier did
