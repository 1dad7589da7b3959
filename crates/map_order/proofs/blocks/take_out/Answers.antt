use Rattle.std.proofs.Common.{arith}
use Rattle.map_order.specs.Blocks.{row_at}
use Rattle.map_order.proofs.OrderLemmas.{taken}
use Rattle.map_order.proofs.blocks.take_out.Goals as goal

pub returns-clause-others : goal.returns-clause-others
returns-clause-others c =
    (taken (row_at c.args.starts.now c.args.rows.now) (row_at c.args.starts.now c.move_down.new.rows) (row_at c.hand_back.new.starts c.hand_back.new.rows) c.args.left c.args.place _ _ c.hand_back.result _ c.hand_back.ensures c.move_down.ensures
    (omega arith) c.requires.place (omega arith)).0

pub returns-clause-row : goal.returns-clause-row
returns-clause-row c =
    (taken (row_at c.args.starts.now c.args.rows.now) (row_at c.args.starts.now c.move_down.new.rows) (row_at c.hand_back.new.starts c.hand_back.new.rows) c.args.left c.args.place _ _ c.hand_back.result _ c.hand_back.ensures c.move_down.ensures
    (omega arith) c.requires.place (omega arith)).1
