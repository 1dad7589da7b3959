-- When the oldest moment joins the base.
use Rattle.std.specs.Prelude.{◌≡◌, ◌<◌, length, None}
use Rattle.journal_model.specs.Rebase.{still_taken_out}
use Rattle.journal_model.specs.Book.{PlainBook}

-- if more moments are in force than may be, no later one took the oldest's change out
abbrev pub CanJoin : PlainBook → Type 0
CanJoin b = b.limits.journal < length b.line.moments → still_taken_out 1 b.line ≡ None
