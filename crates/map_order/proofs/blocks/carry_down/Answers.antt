use Rattle.map_order.proofs.MoveLemmas.{carried_down}
use Rattle.map_order.proofs.blocks.carry_down.Goals as goal

pub returns : goal.returns
returns c = carried_down c.args.rows.now c.rotate_right.new.self c.args.from c.args.to c.requires.order c.requires.within c.rotate_right.ensures.len c.rotate_right.ensures.by_index
