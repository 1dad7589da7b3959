-- What an undo takes back: the last moments of a book.
use Rattle.std.specs.Prelude.{◌≡◌, ℕ, ◌-◌, List, length, take, drop, map as each, Option, Some, None}
use Rattle.std.specs.Option.{option_map}
use Rattle.host_state.specs.declared.change.Change.{Change}
use Rattle.journal_model.specs.Replay.{Entry}
use Rattle.journal_model.specs.Marks.{moments_at}
use Rattle.journal_model.specs.Book.{PlainBook, force_of}
use Rattle.bt_journal.specs.Serials.{change_in}
use Rattle.console_looks.specs.Shown.{change_row, moment_rows}
use Rattle.console_looks.specs.declared.turned.MomentRow.{MomentRow}
use Rattle.console_looks.specs.declared.turned.MomentRow.TheVariants.{Change as IsChange, Without, TakenOut}
use Rattle.console_looks.specs.declared.turned.Turned.{Turned}

-- a moment that is a change, by the change in force of its serial
abbrev pub told_change : ℕ → Option Change → MomentRow
told_change serial None = TakenOut serial
told_change serial (Some change) = IsChange (change_row serial change)

abbrev pub told_moment : List Entry → ℕ × Option ℕ → MomentRow
told_moment force (serial, Some out) = Without serial out
told_moment force (serial, None) = told_change serial (change_in serial force)

-- the last so many, or all if there are no more
abbrev pub last_of : {X : Type 0} → ℕ → List X → List X
last_of count xs = drop (length xs - count) xs

-- these moments, of which the first 16 are told
pub record IsTurned (b : PlainBook) (rows : List (ℕ × Option ℕ)) (it : Turned) : Type 0 where
  pub count : it.count ≡ length rows
  pub told : it.rows.items ≡ each (told_moment (force_of b)) (take 16 rows)

-- the last so many moments
abbrev pub AreLast : ℕ → PlainBook → Turned → Type 0
AreLast count b it = IsTurned b (last_of count (moment_rows b)) it

-- how many moments an undo takes back, if there is one to the mark
abbrev pub undone_by : Option (List ℕ) → PlainBook → Option ℕ
undone_by None b = Some 1
undone_by (Some name) b = option_map (λ at. length b.line.moments - at) (moments_at name b.marks)

-- what it takes back
abbrev pub TakesBack : Option ℕ → PlainBook → Option Turned → Type 0
TakesBack None b told = told ≡ None
TakesBack (Some count) b None = ⊥
TakesBack (Some count) b (Some it) = AreLast count b it
