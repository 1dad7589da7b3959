use Rattle.std.proofs.Common.{ap, ◌∙◌, ◌+◌, ◌-◌, ◌%◌}
use Rattle.bt_queue.proofs.RingLemmas.{popped_rear}
use Rattle.bt_queue.proofs.ring.Ring.pop_rear.Goals as goal

pub returns : goal.returns
returns c =
    popped_rear _ _ _ _ _ c.slot.result c.copy_of.result c.self.invariant c.self.view_is c.requires c.copy_of.ensures
    (c.slot.ensures ∙ ap (λ count. (c.self.inside.head + (c.self.inside.len - 1)) % count) c.len.ensures)
