use Rattle.std.proofs.Common.{◌-◌}
use Rattle.map_order.specs.Blocks.{row_at}
use Rattle.map_order.proofs.BlockLemmas.{IsHandedBack}
use Rattle.map_order.proofs.blocks.hand_back.Given as goal

abbrev pub invariant-behind : goal.invariant-behind
invariant-behind l = IsHandedBack (row_at l.fn.starts l.fn.rows) (row_at l.starts l.rows) l.block l.last l.next l.carried

abbrev pub decreases-behind : goal.decreases-behind
decreases-behind l = l.next - l.block
