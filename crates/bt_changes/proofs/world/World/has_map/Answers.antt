use Rattle.host_state.specs.Hosts.{entries_in}
use Rattle.std.proofs.Common.{◌∙◌, ap, is_some}
use Rattle.std.specs.FinMap as map
use Rattle.host_state.specs.World.{WorldView}
use Rattle.host_state.proofs.HostLemmas.{is_some-host}
use Rattle.bt_changes.proofs.world.World.has_map.Goals as goal

pub returns : goal.returns
returns g c = c.has_host.ensures ∙ is_some-host c.self.inside.host.objects.by_id (entries_in c.self.inside.host.entries) c.args.id (c.self.invariant.built.same_ids c.args.id)
    ∙ ap (λ (w : WorldView). is_some (map.get w.state.maps c.args.id)) c.self.view_is
