use Rattle.std.proofs.Common.{◌≡◌, ◌-◌, ◌++◌}
use Rattle.kept_book.specs.Noted.{changes_since}
use Rattle.kept_book.proofs.noting.changes_since.Given as goal

-- what is noted so far, and what is above it, are all that is above the first
abbrev pub invariant-serials : goal.invariant-serials
invariant-serials g l = l.events.items ++ changes_since l.above l.book.plain ≡ changes_since l.serial l.book.plain

abbrev pub decreases-serials : goal.decreases-serials
decreases-serials g l = l.last - l.above
