-- How a log is written.
use Rattle.std.specs.Prelude.{ℕ, false, List, [], ◌∷◌, ◌++◌, Some, codes, decimal}
use Rattle.std.specs.List.{flat_map, concat}
use Rattle.jiff_core.specs.declared.civil.datetime.DateTime.{DateTime}
use Rattle.jiff_fmt.specs.Text.{datetime_text}
use Rattle.console_text.specs.Text.{made_text}
use Rattle.kept_log.specs.declared.event.LogEvent.{LogEvent}
use Rattle.kept_log.specs.declared.event.LogEvent.TheVariants.{Made, Marked, UndoneTo, UndoneLast, Redone, TakenOut, Forgot}
use Rattle.kept_log.specs.declared.time.LogTime.{LogTime}
use Rattle.kept_log.specs.declared.time.LogTime.TheVariants.{Clock, Beyond}
use Rattle.kept_log.specs.declared.rows.LogRow.{LogRow}

-- `2026-11-27 14:05:01`
abbrev pub clock_text : DateTime → List ℕ
clock_text at = datetime_text false 32 (Some 0) at

abbrev pub time_text : LogTime → List ℕ
time_text (Clock at) = clock_text at
time_text (Beyond milliseconds) = decimal milliseconds

-- words with a name after them
abbrev pub named_text : List ℕ → List ℕ → List ℕ
named_text words name = concat (words ∷ name ∷ [])

abbrev pub without_text : ℕ → List ℕ
without_text serial = concat (codes "without " ∷ decimal serial ∷ [])

-- a change as `journal list` writes it, and another event by the words of its command
abbrev pub event_text : LogEvent → List ℕ
event_text (Made row) = made_text row
event_text (Marked name) = named_text (codes "mark ") name
event_text (UndoneTo name) = named_text (codes "undo ") name
event_text UndoneLast = codes "undo"
event_text Redone = codes "redo"
event_text (TakenOut serial) = without_text serial
event_text (Forgot name) = named_text (codes "forget ") name

-- in front of an event
abbrev pub stamp_text : LogTime → List ℕ
stamp_text time = time_text time ++ codes " "

abbrev pub told_text : LogEvent → List ℕ
told_text event = event_text event ++ codes "\n"

abbrev pub row_text : LogRow → List ℕ
row_text row = stamp_text row.time ++ told_text row.event

abbrev pub log_text : List LogRow → List ℕ
log_text rows = flat_map row_text rows
