use Rattle.std.proofs.Common.{ap, ◌∙◌}
use Rattle.std.specs.FinMap as finite
use Rattle.bt_roots.specs.PinsLeft.{pinned_in}
use Rattle.bt_roots.specs.Slots.{roots_view}
use Rattle.bt_roots.proofs.PinEntries.{entries-pins_of}
use Rattle.bt_roots.proofs.roots.Roots.pins.Goals as goal

pub returns : goal.returns
unfolding roots_view
returns c =
    c.new.ensures ∙ ap pinned_in c.iter.ensures.rest ∙ entries-pins_of c.self.inside.slots.entries c.iter.ensures.ordered
    ∙ ap (λ v. finite.entries v.pins) c.self.view_is
