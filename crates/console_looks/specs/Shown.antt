-- A change in force, with what stood at its place right before it was made and right after.
use Rattle.std.specs.Prelude.{ℕ, ◌+◌, nat_lt, if◌then◌else◌, List, [], ◌∷◌, reverse, count_by, map as each, Option, Some, None}
use Rattle.std.specs.Option.{option_map}
use Rattle.bt_mapkind.specs.declared.request.MapOp.{MapOp}
use Rattle.bt_mapkind.specs.declared.request.MapOp.TheVariants as op
use Rattle.bt_mapkind.specs.declared.request.Query.TheVariants.{Lookup, Peek}
use Rattle.host_state.specs.declared.ask.Ask.{Ask}
use Rattle.host_state.specs.declared.ask.Ask.TheVariants.{Map, Pinned, Devices}
use Rattle.host_state.specs.declared.ask.AskReply.{AskReply}
use Rattle.host_state.specs.declared.change.Change.{Change}
use Rattle.host_state.specs.declared.change.Change.TheVariants.{Create, Operate, Freeze, Link, Load, Pin, Unpin, Attach, Detach}
use Rattle.journal_model.specs.declared.listed.ChangeRow.{ChangeRow}
use Rattle.journal_model.specs.Listed.{origin_of, deed_of}
use Rattle.journal_model.specs.Plain.{Past}
use Rattle.journal_model.specs.Book.{PlainBook, asked, back_to, force_of}
use Rattle.bt_journal.specs.Serials.{change_in}
use Rattle.console_looks.specs.declared.shown.ChangeShown.{ChangeShown}
use Rattle.console_looks.specs.declared.shown.Showing.{Showing}
use Rattle.console_looks.specs.declared.shown.Showing.TheVariants.{Found, NotInForce, Older}

-- the row of a list for a change of this serial
abbrev pub change_row : ℕ → Change → ChangeRow
change_row serial change = record { serial = serial; origin = origin_of change; deed = deed_of change }

-- ---- the place of a change
-- what stands under the key of an operation; of a pop, the next item
abbrev pub operation_question : ℕ → MapOp → Option Ask
operation_question id (op.Update key value flag) = Some (Map id (Lookup key))
operation_question id (op.Delete key) = Some (Map id (Lookup key))
operation_question id (op.Push value flag) = None
operation_question id op.Pop = Some (Map id Peek)
operation_question id (op.Store key offset bytes) = Some (Map id (Lookup key))
operation_question id (op.Atomic key offset size it operand) = Some (Map id (Lookup key))
operation_question id (op.SetLink key named flag) = Some (Map id (Lookup key))

-- what asks what stands at the place of a change
abbrev pub question_of : Change → Option Ask
question_of (Create id attr charge name path template) = None
question_of (Operate origin id it) = operation_question id it
question_of (Freeze id) = None
question_of (Link id key named flag) = Some (Map id (Lookup key))
question_of (Load id code name path) = None
question_of (Pin target path) = Some (Pinned path)
question_of (Unpin path) = Some (Pinned path)
question_of (Attach prog device overwrite) = Some (Devices (Some device))
question_of (Detach device) = Some (Devices (Some device))

abbrev pub operation_key : MapOp → List ℕ
operation_key (op.Update key value flag) = key
operation_key (op.Delete key) = key
operation_key (op.Push value flag) = []
operation_key op.Pop = []
operation_key (op.Store key offset bytes) = key
operation_key (op.Atomic key offset size it operand) = key
operation_key (op.SetLink key named flag) = key

-- the key of a change of one entry
abbrev pub key_of : Change → List ℕ
key_of (Operate origin id it) = operation_key it
key_of (Link id key named flag) = key
key_of _ = []

-- ---- before and after
-- of each moment in force, the oldest first, its serial and that of the change that it took out
abbrev pub moment_rows : PlainBook → List (ℕ × Option ℕ)
moment_rows b = reverse (each (λ (m : Past). (m.serial, m.out)) b.line.moments)

-- how many of them have a smaller serial
abbrev pub count_below : ℕ → List (ℕ × Option ℕ) → ℕ
count_below serial rows = count_by (λ row. nat_lt row.0 serial) rows

-- the answer to a question after an undo to so many moments
abbrev pub asked_after : ℕ → PlainBook → Option Ask → Option AskReply
asked_after count b question = option_map (asked (back_to b count)) question

-- a change, with what stood at its place when the moments of smaller serials were in force, and then with its own
abbrev pub shown_of : ℕ → PlainBook → Change → ChangeShown
shown_of serial b change =
    let earlier = count_below serial (moment_rows b) in
    record { row = change_row serial change; change = change; before = asked_after earlier b (question_of change); after = asked_after (earlier + 1) b (question_of change) }

-- the oldest moment has a greater serial, or not
abbrev pub begins_after : ℕ → List (ℕ × Option ℕ) → Showing
begins_after serial [] = NotInForce
begins_after serial (oldest ∷ rows) = if nat_lt serial oldest.0 then Older oldest.0 else NotInForce

abbrev pub showing_of : ℕ → PlainBook → Option Change → Showing
showing_of serial b (Some change) = Found (shown_of serial b change)
showing_of serial b None = begins_after serial (moment_rows b)

-- what there is to show of a serial
abbrev pub shown_in : ℕ → PlainBook → Showing
shown_in serial b = showing_of serial b (change_in serial (force_of b))
