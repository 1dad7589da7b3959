-- What a log tells of the events of a ledger.
use Rattle.std.specs.Prelude.{◌≡◌, ⊤, ℕ, ℤ, ◌*ℤ◌, pos, List, [], ◌∷◌}
use Rattle.jiff_core.specs.DateTime.{civil_nanos, IsCivilNanos}
use Rattle.host_state.specs.declared.change.Change.{Change}
use Rattle.journal_model.specs.declared.listed.ChangeRow.{ChangeRow}
use Rattle.journal_model.specs.Listed.{origin_of, deed_of}
use Rattle.kept_event.specs.declared.event.KeptEvent.{KeptEvent}
use Rattle.kept_event.specs.declared.event.KeptEvent.TheVariants as kept
use Rattle.kept_ledger.specs.Ledger.{Entry}
use Rattle.kept_log.specs.declared.event.LogEvent.{LogEvent}
use Rattle.kept_log.specs.declared.event.LogEvent.TheVariants.{Made, Marked, UndoneTo, UndoneLast, Redone, TakenOut, Forgot}
use Rattle.kept_log.specs.declared.time.LogTime.{LogTime}
use Rattle.kept_log.specs.declared.time.LogTime.TheVariants.{Clock, Beyond}
use Rattle.kept_log.specs.declared.rows.LogRow.{LogRow}

abbrev pub nanoseconds_of : ℕ → ℤ
nanoseconds_of milliseconds = pos milliseconds *ℤ pos 1_000_000

-- so many milliseconds after 1970 began a clock in UTC, whose days have 24 hours, shows this; or the calendar, which ends with the
-- year 9999, does not go so far
abbrev pub IsTimeOf : ℕ → LogTime → Type 0
IsTimeOf milliseconds (Clock at) = civil_nanos at ≡ nanoseconds_of milliseconds
IsTimeOf milliseconds (Beyond told) = (told ≡ milliseconds) × ¬ IsCivilNanos (nanoseconds_of milliseconds)

-- a change as a list of the journal has it
abbrev pub made_of : ℕ → Change → ChangeRow
made_of serial change = record { serial = serial; origin = origin_of change; deed = deed_of change }

-- a taking out is told by the serial that was taken out
abbrev pub event_of : KeptEvent → LogEvent
event_of (kept.Changed serial change) = Made (made_of serial change)
event_of (kept.Marked name) = Marked name
event_of (kept.UndoneTo name) = UndoneTo name
event_of kept.UndoneLast = UndoneLast
event_of kept.Redone = Redone
event_of (kept.TakenOut serial own) = TakenOut serial
event_of (kept.Forgot name) = Forgot name

pub record IsLogged (e : Entry) (row : LogRow) : Type 0 where
  pub time : IsTimeOf e.time row.time
  pub event : row.event ≡ event_of e.event

-- a row for each event, in the same order
abbrev pub AreLogged : List Entry → List LogRow → Type 0
AreLogged [] [] = ⊤
AreLogged (e ∷ es) (row ∷ rows) = IsLogged e row × AreLogged es rows
AreLogged _ _ = ⊥
