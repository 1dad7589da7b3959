use Rattle.std.proofs.Common.{ap, ◌∙◌, ◌+◌, ◌%◌}
use Rattle.bt_queue.proofs.RingLemmas.{item_at}
use Rattle.bt_queue.proofs.ring.Ring.item.Goals as goal

pub returns : goal.returns
returns c =
    c.copy_of.ensures
    ∙ item_at _ _ _ _ _ c.args.index c.slot.result c.self.invariant c.self.view_is c.requires
    (c.slot.ensures ∙ ap (λ count. (c.self.inside.head + c.args.index) % count) c.len.ensures)
