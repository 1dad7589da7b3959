-- The events that the rows of the table of events show, and where a row shows none.
use Rattle.std.specs.Prelude.{◌≡◌, ◌≢◌, ℕ, ◌+◌, ⊤, false, List, [], ◌∷◌, ◌++◌, length, map, Vec, Option, Some, Result, Ok, Err}
use Rattle.std.specs.declared.alloc.Global.{Global}
use Rattle.std.specs.Ordering.{is_lt}
use Rattle.std.specs.List.Sorted.{IsPermutation}
use Rattle.bt_verify.specs.Verified.{Checked}
use Rattle.sqlite_value.specs.Order.{Row as Values, column, value_cmp}
use Rattle.sqlite.specs.declared.error.Error.TheVariants.{SqliteFailure}
use Rattle.sqlite.specs.declared.error.ErrorCode.TheVariants.{OutOfMemory}
use Rattle.kept_event.specs.declared.event.KeptEvent.{KeptEvent}
use Rattle.kept_event.specs.declared.row.Row.{Row}
use Rattle.kept_event.specs.Reading.{read_with}
use Rattle.kept_ledger.specs.declared.fault.ReadFault.{ReadFault}
use Rattle.kept_ledger.specs.declared.fault.ReadFault.TheVariants.{Sql, DoesNotFit}
use Rattle.kept_ledger.specs.Columns.{number_in, row_in}
use Rattle.kept_ledger.specs.Faults.{IsSqlFault}
use Rattle.kept_ledger.specs.Ledger.{Entry, IsKept, shown}

-- ---- one row
-- values show an event under this place; the code of a program is read from its bytes
pub record Shows (place : ℕ) (values : Values) (event : KeptEvent) : Type 0 where
  pub under : number_in (column values 0) ≡ Some place
  pub row : Row
  pub row_is : row_in values ≡ Some row
  pub code : Option Checked
  pub reads : read_with code row ≡ Some event

-- they are the row of no event under this place
abbrev pub IsNoEvent : ℕ → Values → Type 0
IsNoEvent place values = (e : Entry) → IsKept e → values ≢ shown place e

-- memory ran out, or the row of this place does not fit
abbrev pub TellsRow : ℕ → Values → ReadFault → Type 0
TellsRow place values (Sql error) = error ≡ SqliteFailure OutOfMemory
TellsRow place values (DoesNotFit number) = (number ≡ place) × IsNoEvent place values
TellsRow place values _ = ⊥

-- ---- rows, one after the other
abbrev pub ShowFrom : ℕ → List Values → List KeptEvent → Type 0
ShowFrom place [] [] = ⊤
ShowFrom place (row ∷ rows) (event ∷ events) = Shows place row event × ShowFrom (place + 1) rows events
ShowFrom place _ _ = ⊥

-- the rows before the one of this number, from 1, show events, and it does not fit
pub record StopsAt (rows : List Values) (number : ℕ) : Type 0 where
  pub before : List Values
  pub row : Values
  pub behind : List Values
  pub whole : rows ≡ before ++ row ∷ behind
  pub number_is : number ≡ 1 + length before
  pub events : List KeptEvent
  pub show : ShowFrom 1 before events
  pub none : IsNoEvent number row

abbrev pub TellsRows : List Values → ReadFault → Type 0
TellsRows rows (Sql error) = error ≡ SqliteFailure OutOfMemory
TellsRows rows (DoesNotFit number) = StopsAt rows number
TellsRows rows _ = ⊥

-- ---- the table
-- a row without its time, as a question shows it
abbrev pub shown_row : Values → Values
shown_row row =
    column row 0 ∷ column row 3 ∷ column row 4 ∷ column row 5 ∷ column row 6 ∷ column row 7 ∷ column row 8 ∷ column row 9 ∷ column row 10 ∷ column row 11 ∷ column row 12
    ∷ column row 13 ∷ column row 14 ∷ column row 15 ∷ column row 16 ∷ column row 17 ∷ column row 18 ∷ column row 19 ∷ column row 20 ∷ column row 21 ∷ []

-- no place is below the one before it
abbrev pub Rise : List Values → Type 0
Rise (a ∷ b ∷ rows) = (is_lt (value_cmp (column b 0) (column a 0)) ≡ false) × Rise (b ∷ rows)
Rise _ = ⊤

-- the rows of a table in the order of their places
pub record AreInOrder (table rows : List Values) : Type 0 where
  pub same : IsPermutation (map shown_row table) rows
  pub rising : Rise rows

-- they show these events, or the first that does not fit has this number; else SQLite stopped
abbrev pub ReadsTable : List Values → Result (Vec KeptEvent Global) ReadFault → Type 0
ReadsTable table (Ok read) = (rows : List Values) × AreInOrder table rows × ShowFrom 1 rows read.items
ReadsTable table (Err (DoesNotFit number)) = (rows : List Values) × AreInOrder table rows × StopsAt rows number
ReadsTable table (Err fault) = IsSqlFault fault
