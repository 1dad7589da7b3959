-- The last events of a ledger, each with its time, and how a question shows them.
use Rattle.std.specs.Prelude.{◌≡◌, ⊤, ℕ, ℤ, ◌-◌, ◌^◌, nat_lt, if◌then◌else◌, pos, negsuc, List, [], ◌∷◌, ◌++◌, length, map, drop, Option, Some, None, codes}
use Rattle.sqlite_value.specs.declared.value.Value.TheVariants.{Int}
use Rattle.sqlite_value.specs.Order.{Row as Values, column}
use Rattle.sqlite.specs.declared.error.Error.TheVariants.{SqliteFailure}
use Rattle.sqlite.specs.declared.error.ErrorCode.TheVariants.{OutOfMemory}
use Rattle.kept_event.specs.Bounded.{IsBounded}
use Rattle.kept_event.specs.Row.{row_of}
use Rattle.kept_ledger.specs.declared.fault.ReadFault.{ReadFault}
use Rattle.kept_ledger.specs.declared.fault.ReadFault.TheVariants.{Sql}
use Rattle.kept_log.specs.declared.timed.TimedEvent.{TimedEvent}
use Rattle.kept_ledger.specs.Columns.{number, number_in, row_in}
use Rattle.kept_ledger.specs.Ledger.{Entry, shown}

-- ---- what is read
abbrev pub entry_of : TimedEvent → Entry
entry_of it = record { time = it.time; event = it.event }

abbrev pub entries_of : List TimedEvent → List Entry
entries_of = map entry_of

-- how many are asked for; no table has 2^63 rows, and so many are all
abbrev pub limit_of : Option ℕ → Option ℕ
limit_of None = None
limit_of (Some count) = if nat_lt count (2 ^ 63) then Some count else None

-- the last so many, or all
abbrev pub last_within : {X : Type 0} → Option ℕ → List X → List X
last_within None xs = xs
last_within (Some count) xs = drop (length xs - count) xs

abbrev pub last_of : {X : Type 0} → Option ℕ → List X → List X
last_of most xs = last_within (limit_of most) xs

-- ---- the question
abbrev pub last_text : List ℕ
last_text = codes "SELECT place, serial, prog, verb, map, key, value, flag, at, size, op, target, name, path, type, key_size, value_size, entries, flags, code, time FROM event ORDER BY place DESC LIMIT ?1"

-- SQLite takes a limit below 0 for none
abbrev pub limit_number : Option ℕ → ℤ
limit_number None = negsuc 0
limit_number (Some count) = pos count

abbrev pub last_params : Option ℕ → Values
last_params most = Int (limit_number (limit_of most)) ∷ []

-- an event under its place, with its time
abbrev pub shown_timed : ℕ → Entry → Values
shown_timed place e = shown place e ++ number (Some e.time) ∷ []

-- values show this event, with its time
pub record IsTimed (values : Values) (e : Entry) : Type 0 where
  pub time : number_in (column values 20) ≡ Some e.time
  pub row : row_in values ≡ Some (row_of e.event)
  pub bounded : IsBounded e.event

-- rows show these events, each with its time
abbrev pub AreTimed : List Values → List Entry → Type 0
AreTimed [] [] = ⊤
AreTimed (row ∷ rows) (e ∷ es) = IsTimed row e × AreTimed rows es
AreTimed _ _ = ⊥

-- SQLite is named only if memory ran out
abbrev pub TellsMemory : ReadFault → Type 0
TellsMemory (Sql error) = error ≡ SqliteFailure OutOfMemory
TellsMemory _ = ⊤
