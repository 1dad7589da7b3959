use Rattle.std.proofs.Common.{ap, ◌∙◌}
use Rattle.map_block.specs.Rows.{rows}
use Rattle.map_block.proofs.RowLemmas.{rows-zeros}
use Rattle.map_block.proofs.block.Block.zeros.Goals as goal

pub returns : goal.returns
returns c = ap (rows c.args.size c.args.count) c.in_ok-bytes.ensures ∙ rows-zeros c.args.size c.args.count
