use Rattle.std.proofs.Common.{◌-◌}
use Rattle.bt_nested.proofs.FilledLemmas.{IsBetween}
use Rattle.bt_nested.proofs.slots.place_of.Given as goal

abbrev pub invariant-halves : goal.invariant-halves
invariant-halves l = IsBetween l.filled.rows l.index l.low l.high

abbrev pub decreases-halves : goal.decreases-halves
decreases-halves l = l.high - l.low
