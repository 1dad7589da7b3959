use Rattle.std.proofs.Common.{◌*◌, ◌-◌, length}
use Rattle.map_trie.proofs.TrieLemmas.{IsOnWay}
use Rattle.map_trie.proofs.links.link_of.Given as goal

abbrev pub invariant-down : goal.invariant-down
invariant-down l = IsOnWay l.links l.keys l.key l.at l.depth

abbrev pub decreases-down : goal.decreases-down
decreases-down l = 8 * length l.key - l.depth
