use Rattle.std.proofs.Common.{get_or}
use Rattle.map_order.proofs.BlockLemmas.{moved_straight, moved_round}
use Rattle.map_order.proofs.blocks.move_up.Goals as goal

pub returns-then-to-lt-BLOCK : goal.returns-then-to-lt-BLOCK
returns-then-to-lt-BLOCK c = moved_straight c.args.starts.now c.args.place (λ i. get_or c.args.rows.now i 0) (λ i. get_or c.carry_up.new.rows i 0) c.if-to-lt-BLOCK.true c.carry_up.ensures

pub returns-else-to-lt-BLOCK : goal.returns-else-to-lt-BLOCK
returns-else-to-lt-BLOCK c =
    moved_round c.args.starts.now c.args.place (λ i. get_or c.args.rows.now i 0) (λ i. get_or c.carry_up-else-to-lt-BLOCK.new.rows i 0) (λ i. get_or c.swap.new.self i 0) (λ i. get_or c.carry_up-else-to-lt-BLOCK-2.new.rows i 0) c.if-to-lt-BLOCK.false
    c.carry_up-else-to-lt-BLOCK.ensures
    (record { first = c.swap.ensures.by_index.0 0; second = c.swap.ensures.by_index.1 0; others = λ i a b. c.swap.ensures.by_index.2 i 0 a b })
    c.carry_up-else-to-lt-BLOCK-2.ensures
