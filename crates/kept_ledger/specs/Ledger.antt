-- A kept book in the tables of a database: its terms and its events, and what a crash may leave of them.
use Rattle.std.specs.Prelude.{◌≡◌, ◌⊎◌, ⊤, ℕ, ◌+◌, ◌^◌, ◌<◌, pos, Some, true, false, IsTrue, List, [], ◌∷◌, map, Result, OnOk, IfErr}
use Rattle.std.specs.List.{AllByRecursion}
use Rattle.sqlite_value.specs.declared.value.Value.TheVariants.{Null, Int}
use Rattle.sqlite_value.specs.Order.{Row as Values}
use Rattle.sqlite_trees.specs.Tree.{Trees}
use Rattle.sqlite_catalog.specs.Listing.{IsSound}
use Rattle.sqlite.specs.State.{State, HasCleanDisk, Survives, FailsToQuery}
use Rattle.sqlite.specs.declared.error.Error.TheVariants.{SqliteFailure}
use Rattle.sqlite.specs.declared.error.ErrorCode.TheVariants.{OutOfMemory}
use Rattle.kept_event.specs.declared.event.KeptEvent.{KeptEvent}
use Rattle.kept_event.specs.Bounded.{IsBounded}
use Rattle.kept_event.specs.Row.{row_of}
use Rattle.sqlite_schema.specs.declared.schema.Schema.{Schema}
use Rattle.kept_ledger.specs.Table.{no_schema, ledger_schema}
use Rattle.kept_ledger.specs.declared.fault.ReadFault.{ReadFault}
use Rattle.kept_ledger.specs.declared.fault.ReadFault.TheVariants.{Sql}
use Rattle.kept_ledger.specs.Columns.{number, columns_of, Fits}
use Rattle.kept_ledger.specs.Faults.{IsSqlFault, IsNoBook}
use Rattle.kept_ledger.specs.TermsView.{PlainTerms, AreTerms}
use Rattle.kept_ledger.specs.TermsRow.{row_of_terms}

-- an event, and the time at which it was added, in milliseconds since 1970
pub record Entry : Type 0 where
  pub time : ℕ
  pub event : KeptEvent

abbrev pub events_of : List Entry → List KeptEvent
events_of = map (λ (e : Entry). e.event)

-- the events at one time
abbrev pub stamped : ℕ → List KeptEvent → List Entry
stamped time = map (λ event. record { time = time; event = event })

-- the parameters of a row that is added
abbrev pub params_of : Entry → Values
params_of e = number (Some e.time) ∷ columns_of (row_of e.event)

-- an event as it is stored under its place, and as a query shows it
abbrev pub stored : ℕ → Entry → Values
stored place e = Int (pos place) ∷ Null ∷ params_of e

abbrev pub shown : ℕ → Entry → Values
shown place e = Int (pos place) ∷ columns_of (row_of e.event)

-- events under the places from this one on
abbrev pub rows_from : ℕ → List Entry → List Values
rows_from place [] = []
rows_from place (e ∷ es) = stored place e ∷ rows_from (place + 1) es

abbrev pub shown_from : ℕ → List Entry → List Values
shown_from place [] = []
shown_from place (e ∷ es) = shown place e ∷ shown_from (place + 1) es

-- an event whose numbers, keys and code are of their types, and its time
pub record IsKept (e : Entry) : Type 0 where
  pub timed : e.time < 2 ^ 64
  pub bounded : IsBounded e.event
  pub fits : Fits (row_of e.event)

abbrev pub AreKept : List Entry → Type 0
AreKept es = AllByRecursion IsKept es

-- terms as they are stored, in the one row of their table
abbrev pub stored_terms : PlainTerms → Values
stored_terms t = Int (pos 1) ∷ row_of_terms t

-- ---- with their times
-- a sound database of these terms, whose table has these entries, under their places from 1
pub record HoldEntries (t : PlainTerms) (es : List Entry) (db : Trees) : Type 0 where
  pub sound : IsSound ledger_schema db
  pub rows : db 0 ≡ rows_from 1 es
  pub kept : AreKept es
  pub began : db 1 ≡ stored_terms t ∷ []
  pub terms : AreTerms t

-- between two calls: the tables have these terms and entries, and they are committed
pub record IsLedgerOf (t : PlainTerms) (es : List Entry) (s : State) : Type 0 where
  pub schema : s.now.schema ≡ ledger_schema
  pub held : HoldEntries t es s.now.trees
  pub committed : s.committed ≡ s.now
  pub autocommit : s.in_transaction ≡ false

-- within a transaction: the tables have these terms and entries, which are not yet committed
pub record IsAdding (t : PlainTerms) (es : List Entry) (s : State) : Type 0 where
  pub schema : s.now.schema ≡ ledger_schema
  pub held : HoldEntries t es s.now.trees
  pub inside : s.in_transaction ≡ true

-- ---- before there are tables
-- between two calls: the database has no table
pub record IsUnmade (s : State) : Type 0 where
  pub schema : s.now.schema ≡ no_schema
  pub autocommit : s.in_transaction ≡ false

-- within the transaction that makes the tables: these are made so far, and empty
pub record IsMaking (schema : Schema) (s : State) : Type 0 where
  pub schema_is : s.now.schema ≡ schema
  pub empty : AllByRecursion (λ table. s.now.trees table.tree ≡ []) schema.tables
  pub inside : s.in_transaction ≡ true

-- ---- each with some time
-- a database of a book that began with these terms, and has these events in order and no others
pub record Hold (t : PlainTerms) (events : List KeptEvent) (db : Trees) : Type 0 where
  pub entries : List Entry
  pub are : events_of entries ≡ events
  pub held : HoldEntries t entries db

-- between two calls, a connection to a database of a book that began with these terms, and has these events in order and no
-- others
pub record IsLedger (t : PlainTerms) (events : List KeptEvent) (s : State) : Type 0 where
  pub entries : List Entry
  pub are : events_of entries ≡ events
  pub ledger : IsLedgerOf t entries s

-- a crash at this moment leaves a database that has P
abbrev pub LeavesOnly : (Trees → Type 0) → State → Type 0
LeavesOnly P s = (db : Trees) → s.may_leave db → P db

-- ---- what a call does
-- it adds: once it returns Ok the connection shows Now, and each crash leaves After; until then a crash leaves After, or what it
-- left before
pub record Commits {A E : Type 0} (old new : State) (result : Result A E) (Now : State → Type 0) (After : Trees → Type 0) : Type 0 where
  pub done : HasCleanDisk new → OnOk result (Now new)
  pub durable : HasCleanDisk new → OnOk result (LeavesOnly After new)
  pub crash : Survives old new After

-- a fault of SQLite is why it did not answer the question, or memory ran out
abbrev pub TellsSql : List ℕ → Values → State → State → ReadFault → Type 0
TellsSql text params old new (Sql error) = (error ≡ SqliteFailure OutOfMemory) ⊎ FailsToQuery text params old new error
TellsSql text params old new _ = ⊤

-- it asks this question, with these parameters: a ledger stays, also with its times, and none of its rows is at fault, a database
-- with no table is told, SQLite's faults are its own, and nothing is written to the disk
pub record OnlyReads {A : Type 0} (text : List ℕ) (params : Values) (old new : State) (result : Result A ReadFault) : Type 0 where
  pub same : HasCleanDisk new → (t : PlainTerms) (events : List KeptEvent) → IsLedger t events old → OnOk result (IsLedger t events new)
  pub stays : HasCleanDisk new → (t : PlainTerms) (es : List Entry) → IsLedgerOf t es old → OnOk result (IsLedgerOf t es new)
  pub fit : HasCleanDisk new → (t : PlainTerms) (events : List KeptEvent) → IsLedger t events old → IfErr result IsSqlFault
  pub bare : HasCleanDisk new → old.now.schema ≡ no_schema → IsNoBook result
  pub sql : HasCleanDisk new → IfErr result (TellsSql text params old new)
  pub crash : Survives old new (λ _. (t : PlainTerms) (events : List KeptEvent) → IsLedger t events old → ⊥)

-- ---- after an error
-- the transaction that was open is undone, and the connection shows the last commit; if it is open still
pub record IsUndone (old new : State) : Type 0 where
  pub was_open : IsTrue new.is_open → IsTrue old.is_open
  pub now_is : IsTrue new.is_open → new.now ≡ old.committed
  pub committed_is : IsTrue new.is_open → new.committed ≡ old.committed
  pub autocommit : new.in_transaction ≡ false
