use Rattle.std.proofs.Common.{subst}
use Rattle.host_state.specs.World.{WorldView}
use Rattle.host_state.specs.Hosts.{entries_in, HoldsWell}
use Rattle.bt_changes.proofs.HeldLemmas.{holds_well}
use Rattle.bt_changes.proofs.world.World.maps_are_well.Goals as goal

pub returns : goal.returns
returns g c =
    let h = c.self.inside.host in
    subst (λ (w : WorldView). HoldsWell w.state) c.self.view_is (holds_well h.objects.by_id (entries_in h.entries) h.roots c.self.invariant.built)
