use Rattle.std.proofs.Common.{arith}
use Rattle.std.proofs.lemmas.Grind.{common_steps}
use Rattle.map_trie.specs.Ways.{bit_of}
use Rattle.map_trie.proofs.keys.bit_of.Goals as goal

pub returns-clause-bit : goal.returns-clause-bit
unfolding bit_of
returns-clause-bit c = grind (arith, common_steps)
