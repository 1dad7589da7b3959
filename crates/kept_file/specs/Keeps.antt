-- A database keeps a book: its events lead to it from a new book of its terms.
use Rattle.std.specs.Prelude.{List}
use Rattle.sqlite_trees.specs.Tree.{Trees}
use Rattle.sqlite.specs.State.{State}
use Rattle.journal_model.specs.Book.{PlainBook, fresh_book}
use Rattle.kept_event.specs.declared.event.KeptEvent.{KeptEvent}
use Rattle.kept_book.specs.Leading.{LeadTo}
use Rattle.kept_ledger.specs.TermsView.{PlainTerms}
use Rattle.kept_ledger.specs.Ledger.{Hold, IsLedger}

-- a new book of these terms
abbrev pub start_of : PlainTerms → PlainBook
start_of t = fresh_book t.devices t.limits

-- between two calls, a connection to a database of a book that began with these terms, whose events lead to this book
pub record Keeps (t : PlainTerms) (s : State) (b : PlainBook) : Type 0 where
  pub events : List KeptEvent
  pub ledger : IsLedger t events s
  pub leads : LeadTo (start_of t) events b

-- a database of a book that began with these terms, whose events lead to this book
pub record HoldsBook (t : PlainTerms) (b : PlainBook) (db : Trees) : Type 0 where
  pub events : List KeptEvent
  pub holds : Hold t events db
  pub leads : LeadTo (start_of t) events b

-- ---- one book of several, as a crash in the middle of a call leaves either the book before it or the one after it
-- a connection keeps one of these books
pub record KeepsOne (t : PlainTerms) (Books : PlainBook → Type 0) (s : State) : Type 0 where
  pub book : PlainBook
  pub is : Books book
  pub keeps : Keeps t s book

-- a database of one of these books
pub record HoldsOne (t : PlainTerms) (Books : PlainBook → Type 0) (db : Trees) : Type 0 where
  pub book : PlainBook
  pub is : Books book
  pub holds : HoldsBook t book db
