use Rattle.std.proofs.Common.{get_or, sym}
use Rattle.map_order.proofs.BlockLemmas.{moved_straight, moved_round}
use Rattle.map_order.proofs.blocks.move_down.Goals as goal

pub returns-then-from-lt-BLOCK : goal.returns-then-from-lt-BLOCK
returns-then-from-lt-BLOCK c = moved_straight c.args.starts.now c.args.place (λ i. get_or c.carry_down.new.rows i 0) (λ i. get_or c.args.rows.now i 0) c.if-from-lt-BLOCK.true c.carry_down.ensures

pub returns-else-from-lt-BLOCK : goal.returns-else-from-lt-BLOCK
returns-else-from-lt-BLOCK c =
    moved_round c.args.starts.now c.args.place (λ i. get_or c.carry_down-else-from-lt-BLOCK-2.new.rows i 0) (λ i. get_or c.swap.new.self i 0) (λ i. get_or c.carry_down-else-from-lt-BLOCK.new.rows i 0) (λ i. get_or c.args.rows.now i 0) c.if-from-lt-BLOCK.false
    c.carry_down-else-from-lt-BLOCK-2.ensures
    (record { first = sym (c.swap.ensures.by_index.1 0); second = sym (c.swap.ensures.by_index.0 0); others = λ i a b. sym (c.swap.ensures.by_index.2 i 0 a b) })
    c.carry_down-else-from-lt-BLOCK.ensures
