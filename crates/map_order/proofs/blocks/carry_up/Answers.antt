use Rattle.map_order.proofs.MoveLemmas.{carried_up}
use Rattle.map_order.proofs.blocks.carry_up.Goals as goal

pub returns : goal.returns
returns c = carried_up c.args.rows.now c.rotate_left.new.self c.args.from c.args.to c.requires.order c.requires.within c.rotate_left.ensures.len c.rotate_left.ensures.by_index
