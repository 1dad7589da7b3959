use Rattle.std.proofs.Common.{sym}
use Rattle.map_block.proofs.RowLemmas.{count_of}
use Rattle.map_block.proofs.block.Block.len.Goals as goal

pub returns : goal.returns
returns c = sym (count_of _ _ _ _ (record { view = c.self.view_is; long = c.self.invariant.0 }))
