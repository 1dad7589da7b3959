use Rattle.std.proofs.Common.{ap, ◌∙◌, ◌+◌, ◌%◌}
use Rattle.bt_queue.proofs.RingLemmas.{pushed_rear}
use Rattle.bt_queue.proofs.ring.Ring.push_row.Goals as goal

pub returns : goal.returns
returns c =
    pushed_rear _ _ _ _ _ _ c.slot-place.result _ c.self.invariant c.self.view_is c.requires.room
    (c.slot-place.ensures ∙ ap (λ count. (c.self.inside.head + c.self.inside.len) % count) c.len.ensures) c.replace.ensures
