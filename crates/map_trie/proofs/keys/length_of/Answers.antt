use Rattle.std.proofs.Common.{arith}
use Rattle.std.proofs.lemmas.Grind.{common_steps}
use Rattle.bt_mapkind.specs.Index.{index_of}
use Rattle.map_trie.proofs.keys.length_of.Goals as goal

pub returns-clause-bits : goal.returns-clause-bits
unfolding index_of
returns-clause-bits c = grind (arith, common_steps)
