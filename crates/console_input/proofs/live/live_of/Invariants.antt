use Rattle.std.proofs.Common.{◌≡◌}
use Rattle.std.specs.Vec.Iter.{into_iter_items, into_iter_len}
use Rattle.console_input.specs.Live.{live_behind, asked_live}
use Rattle.console_input.proofs.live.live_of.Given as goal

-- the options so far and the words that are left ask what all words ask
abbrev pub invariant-options : goal.invariant-options
invariant-options l = record { left : live_behind l.given (into_iter_items l.words) ≡ asked_live (into_iter_items l.fn.words) }

abbrev pub decreases-options : goal.decreases-options
decreases-options l = into_iter_len l.words
