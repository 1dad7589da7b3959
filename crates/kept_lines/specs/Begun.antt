-- The book that a script begins with.
use Rattle.std.specs.Prelude.{◌≡◌, ◌⊎◌, ℕ, false, IsTrue, List, [], Option, Result, Ok, Err}
use Rattle.sqlite_trees.specs.Tree.{Trees}
use Rattle.sqlite.specs.State.{State, HasCleanDisk}
use Rattle.journal_model.specs.Book.{PlainBook}
use Rattle.bt_journal.specs.BookView.{BookView}
use Rattle.kept_event.specs.declared.event.KeptEvent.{KeptEvent}
use Rattle.kept_ledger.specs.Table.{no_schema}
use Rattle.kept_ledger.specs.TermsView.{PlainTerms}
use Rattle.kept_ledger.specs.Ledger.{Entry, IsLedger, IsLedgerOf}
use Rattle.kept_file.specs.Keeps.{Keeps, HoldsBook, start_of}
use Rattle.kept_file.specs.Faults.{TellsWhy}
use Rattle.kept_file.specs.declared.fault.OpenFault.{OpenFault}
use Rattle.kept_lines.specs.Kept.{IsOnDisk, HasMore}
use Rattle.kept_lines.specs.declared.fault.KeptFault.{KeptFault}
use Rattle.kept_lines.specs.declared.fault.KeptFault.TheVariants.{Open, Make, Lines}

-- a connection between two calls, outside a transaction
pub record IsReady (s : State) : Type 0 where
  pub is_open : IsTrue s.is_open
  pub autocommit : s.in_transaction ≡ false

-- so it is if the disk was clean then
abbrev pub WasReady : State → Type 0
WasReady s = HasCleanDisk s → IsReady s

-- a database that has no table, and gets a book of the new terms
pub record IsNew (new t : PlainTerms) (s : State) (b : PlainBook) : Type 0 where
  pub unmade : s.now.schema ≡ no_schema
  pub terms : t ≡ new
  pub begins : b ≡ start_of new

-- the book of a database, with the terms that it began with
abbrev pub HasBook : PlainTerms → PlainTerms → State → PlainBook → Type 0
HasBook new t s b = IsNew new t s b ⊎ Keeps t s b

-- a crash leaves what it left before, or the new book if there was none
pub record IsNotBegun (terms : PlainTerms) (old new : State) : Type 0 where
  pub leaves : HasCleanDisk new → WasReady old → (t : PlainTerms) (b : PlainBook) → HasBook terms t old b → (db : Trees) → new.may_leave db
      → old.may_leave db ⊎ ((old.now.schema ≡ no_schema) × HoldsBook terms (start_of terms) db)

-- the book of the database is begun, and on the disk; or why it is not
abbrev pub BeginsOn : PlainTerms → State → State → Result BookView KeptFault → Type 0
BeginsOn terms old new (Ok book) = HasCleanDisk new → WasReady old → (t : PlainTerms) (b : PlainBook) → HasBook terms t old b → (book.plain ≡ b) × IsOnDisk t new b
BeginsOn terms old new (Err (Open why)) = IsNotBegun terms old new
    × (HasCleanDisk new → (t : PlainTerms) (events : List KeptEvent) → IsLedger t events old → TellsWhy t events why)
BeginsOn terms old new (Err (Make error)) = IsNotBegun terms old new
BeginsOn terms old new (Err (Lines why)) = ⊥

-- the entries of a database, with the terms of its book; one that has no table gets the new terms, and has none
abbrev pub HasEntries : PlainTerms → PlainTerms → State → List Entry → Type 0
HasEntries new t s es = ((s.now.schema ≡ no_schema) × (t ≡ new) × (es ≡ [])) ⊎ IsLedgerOf t es s

-- what was added to them got this time
abbrev pub AddsToBook : PlainTerms → ℕ → State → State → Type 0
AddsToBook terms time old new = HasCleanDisk new → WasReady old → (t : PlainTerms) (es : List Entry) → HasEntries terms t old es → HasMore time t es new

-- and this is a time that a clock may tell
abbrev pub AddsNow : PlainTerms → (ℕ → Type 0) → State → State → Type 0
AddsNow terms may_be_time old new = (time : ℕ) × may_be_time time × AddsToBook terms time old new

-- no line was run
pub record IsNotRun (terms : PlainTerms) (old new : State) (out_old out_new : Option (List ℕ)) : Type 0 where
  pub unwritten : out_new ≡ out_old
  pub disk : IsNotBegun terms old new

-- since the book that the database has was not opened, for this reason
abbrev pub IsNotOpened : PlainTerms → State → State → Option (List ℕ) → Option (List ℕ) → OpenFault → Type 0
IsNotOpened terms old new out_old out_new why =
    IsNotRun terms old new out_old out_new × (HasCleanDisk new → (t : PlainTerms) (events : List KeptEvent) → IsLedger t events old → TellsWhy t events why)
