use Rattle.std.proofs.Common.{◌-◌}
use Rattle.map_trie.proofs.TrieLemmas.{IsCarried}
use Rattle.map_trie.proofs.links.put_in.Given as goal

abbrev pub invariant-down : goal.invariant-down
invariant-down l = IsCarried l.node l.links l.keys l.carried l.at l.depth

abbrev pub decreases-down : goal.decreases-down
decreases-down l = 2080 - l.depth
