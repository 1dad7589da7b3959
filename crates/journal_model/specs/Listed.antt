-- What a book lists: the changes in force and the marks.
use Rattle.std.specs.Prelude.{ℕ, map as each}
use Rattle.bt_mapkind.specs.declared.request.MapOp.{MapOp}
use Rattle.bt_mapkind.specs.declared.request.MapOp.TheVariants as op
use Rattle.host_state.specs.declared.change.Change.{Change}
use Rattle.host_state.specs.declared.change.Change.TheVariants.{Create, Operate, Freeze, Link, Load, Pin, Unpin, Attach, Detach}
use Rattle.host_state.specs.declared.change.Origin.{Origin}
use Rattle.host_state.specs.declared.change.Origin.TheVariants.{Console}
use Rattle.journal_model.specs.declared.listed.Deed.{Deed}
use Rattle.journal_model.specs.declared.listed.Deed.TheVariants as deed
use Rattle.journal_model.specs.declared.listed.ChangeRow.{ChangeRow}
use Rattle.journal_model.specs.declared.listed.MarkRow.{MarkRow}
use Rattle.journal_model.specs.declared.listed.JournalList.{JournalList}
use Rattle.journal_model.specs.Replay.{Entry}
use Rattle.journal_model.specs.Plain.{newest_force}
use Rattle.journal_model.specs.Marks.{Mark}
use Rattle.journal_model.specs.Book.{PlainBook}

-- who made a change
abbrev pub origin_of : Change → Origin
origin_of (Operate origin id it) = origin
origin_of _ = Console

-- what an operation did
abbrev pub operation_deed : MapOp → ℕ → Deed
operation_deed (op.Update key value flag) id = deed.Update id
operation_deed (op.Delete key) id = deed.Delete id
operation_deed (op.Push value flag) id = deed.Push id
operation_deed op.Pop id = deed.Pop id
operation_deed (op.Store key offset bytes) id = deed.Store id
operation_deed (op.Atomic key offset size it operand) id = deed.Atomic id
operation_deed (op.SetLink key named flag) id = deed.Link id

-- what a change did
abbrev pub deed_of : Change → Deed
deed_of (Create id attr charge name path template) = deed.Create id
deed_of (Operate origin id it) = operation_deed it id
deed_of (Freeze id) = deed.Freeze id
deed_of (Link id key named flag) = deed.Link id
deed_of (Load id code name path) = deed.Load id
deed_of (Pin target path) = deed.Pin path
deed_of (Unpin path) = deed.Unpin path
deed_of (Attach prog device overwrite) = deed.Attach device
deed_of (Detach device) = deed.Detach device

abbrev pub row_of : Entry → ChangeRow
row_of e = record { serial = e.serial; origin = origin_of e.change; deed = deed_of e.change }

abbrev pub mark_row : Mark → MarkRow
mark_row mark = record { name = mark.name; moments = mark.moments }

-- the changes in force, the oldest first, and the marks in order of making
abbrev pub listed : PlainBook → JournalList
listed b = record { changes = each row_of (newest_force b.line.moments); marks = each mark_row b.marks }
