use Rattle.std.proofs.Common.{◌-◌, ◌+◌}
use Rattle.map_trie.proofs.TrieLemmas.{IsBest}
use Rattle.map_trie.proofs.links.most_of.Given as goal

abbrev pub invariant-down : goal.invariant-down
invariant-down l = IsBest l.links l.keys l.key l.at l.depth l.best

abbrev pub decreases-down : goal.decreases-down
decreases-down l = l.bits + 1 - l.depth
