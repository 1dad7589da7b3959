use Rattle.std.proofs.Common.{arith}
use Rattle.map_order.specs.Blocks.{row_at}
use Rattle.map_order.proofs.OrderLemmas.{inserted}
use Rattle.map_order.proofs.blocks.put_in.Goals as goal

pub returns : goal.returns
returns c =
    inserted (row_at c.args.starts.now c.args.rows.now) (row_at c.hand_on.new.starts c.hand_on.new.rows) (row_at c.hand_on.new.starts c.move_up.new.rows) c.args.len c.args.place _ _ c.args.row _ c.hand_on.ensures c.move_up.ensures
    (omega arith) c.requires.place (omega arith)
