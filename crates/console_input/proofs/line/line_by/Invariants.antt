use Rattle.std.proofs.Common.{◌≡◌}
use Rattle.std.specs.Vec.Iter.{into_iter_items, into_iter_len}
use Rattle.console_input.specs.Book.{line_by}
use Rattle.console_input.proofs.line.line_by.Given as goal

-- the line so far and the words that are left give what all words give
abbrev pub invariant-words : goal.invariant-words
invariant-words l = record { left : line_by l.line.items (into_iter_items l.words) ≡ line_by l.fn.line.items (into_iter_items l.fn.words) }

abbrev pub decreases-words : goal.decreases-words
decreases-words l = into_iter_len l.words
