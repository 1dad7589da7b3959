use Rattle.std.proofs.Common.{set, ap, ◌∙◌}
use Rattle.map_block.proofs.RowLemmas.{overwritten-whole}
use Rattle.map_block.proofs.block.Block.replace.Goals as goal

pub returns : goal.returns
returns c = c.write.ensures ∙ ap (set c.args.self.now c.args.index) (overwritten-whole _ c.args.other.now c.requires.same_size)
