use Rattle.std.proofs.Common.{◌≡◌, ◌++◌, drop, map}
use Rattle.journal_model.specs.Book.{force_of}
use Rattle.console_looks.specs.Turned.{told_moment}
use Rattle.console_looks.proofs.turned.told_moments.Given as goal

abbrev pub invariant-loop-row : goal.invariant-loop-row
invariant-loop-row g l = l.told.items ++ map (told_moment (force_of l.book.plain)) (drop l.row-index l.rows) ≡ l.initial.told.items ++ map (told_moment (force_of l.book.plain)) l.rows
