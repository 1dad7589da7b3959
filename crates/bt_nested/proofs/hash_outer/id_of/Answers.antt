use Rattle.std.proofs.Common.{arith}
use Rattle.std.proofs.lemmas.Grind.{common_steps}
use Rattle.bt_mapkind.specs.Index.{index_of}
use Rattle.bt_nested.proofs.hash_outer.id_of.Goals as goal

pub returns : goal.returns
unfolding index_of
returns c = grind (arith, common_steps)
