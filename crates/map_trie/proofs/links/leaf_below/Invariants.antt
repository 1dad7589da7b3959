use Rattle.std.proofs.Common.{◌+◌, ◌*◌, ◌<◌, length}
use Rattle.std.specs.List.{slice_index}
use Rattle.map_trie.specs.Ways.{IsUnder}
use Rattle.map_trie.proofs.TrieLemmas.{bits_of, long_of}
use Rattle.map_trie.proofs.links.leaf_below.Given as goal

abbrev pub invariant-loop-down : goal.invariant-loop-down
invariant-loop-down l = record {
  within : l.at < length l.links;
  some : 0 < slice_index l.links l.at;
  under : IsUnder (2 * length l.keys + 2) (slice_index l.links) (bits_of l.keys) (long_of l.keys) l.top (slice_index l.links l.at) l.down;
}
