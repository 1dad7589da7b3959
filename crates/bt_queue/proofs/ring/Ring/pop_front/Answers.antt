use Rattle.std.proofs.Common.{ap, ◌∙◌, ◌+◌, ◌%◌}
use Rattle.bt_queue.proofs.RingLemmas.{popped_front}
use Rattle.bt_queue.proofs.ring.Ring.pop_front.Goals as goal

pub returns : goal.returns
returns c =
    popped_front _ _ _ _ _ c.slot-self-inside.result c.copy_of-item.result c.self.invariant c.self.view_is c.requires c.copy_of-item.ensures
    (c.slot-self-inside.ensures ∙ ap (λ count. (c.self.inside.head + 1) % count) c.len.ensures)
