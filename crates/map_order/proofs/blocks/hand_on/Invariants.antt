use Rattle.std.proofs.Common.{◌*◌}
use Rattle.map_order.specs.Blocks.{row_at}
use Rattle.map_order.proofs.BlockLemmas.{Carries}
use Rattle.map_order.proofs.blocks.hand_on.Given as goal

abbrev pub invariant-loop-next : goal.invariant-loop-next
invariant-loop-next l = Carries (row_at l.fn.starts l.fn.rows) (row_at l.starts l.rows) (l.block * 512) (l.next * 512) l.row l.carried
