use Rattle.std.proofs.Common.{◌≡◌, ◌+◌, ◌*◌, subst, arith}
use Rattle.map_order.specs.Blocks.{row_at}
use Rattle.map_order.proofs.BlockLemmas.{Carries, carries_more}
use Rattle.map_order.proofs.blocks.hand_on.Goals as goal

pub loop-next-preserved : goal.loop-next-preserved
loop-next-preserved c =
    let next : c.loop-next.next * 512 + 512 ≡ (c.loop-next.next + 1) * 512 = omega arith in
    subst (λ end. Carries (row_at c.args.starts.now c.args.rows.now) (row_at c.push_front-carried.new.starts c.push_front-carried.new.rows) (c.args.block * 512) end c.args.row c.push_front-carried.result) next
    (carries_more _ _ _ _ _ _ _ _ c.loop-next.invariant c.push_front-carried.ensures)
