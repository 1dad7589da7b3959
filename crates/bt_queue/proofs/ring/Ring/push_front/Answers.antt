use Rattle.std.proofs.Common.{ap₂, ◌∙◌, ◌+◌, ◌-◌, ◌%◌}
use Rattle.bt_queue.proofs.RingLemmas.{pushed_front}
use Rattle.bt_queue.proofs.ring.Ring.push_front.Goals as goal

pub returns : goal.returns
returns c =
    pushed_front _ _ _ _ _ _ c.slot-place.result _ c.self.invariant c.self.view_is c.requires.room
    (c.slot-place.ensures ∙ ap₂ (λ count others. (c.self.inside.head + (others - 1)) % count) c.len-2.ensures c.len.ensures) c.exchange.ensures.here
