use Rattle.std.proofs.Common.{◌≡◌}
use Rattle.std.specs.Vec.Iter.{into_iter_items, into_iter_len}
use Rattle.console_input.specs.Options.{no_options, options_in}
use Rattle.console_input.proofs.options.take_options.Given as goal

-- the options so far and the words that are left are what all words are
abbrev pub invariant-options : goal.invariant-options
invariant-options l = record { left : options_in l.options l.verb (into_iter_items l.words) ≡ options_in no_options l.fn.word (into_iter_items l.fn.words) }

abbrev pub decreases-options : goal.decreases-options
decreases-options l = into_iter_len l.words
