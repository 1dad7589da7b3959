use Rattle.std.proofs.Common.{sym, ap, ◌∙◌}
use Rattle.host_state.specs.Act.{attr_if_live, live_map, if_live}
use Rattle.host_state.specs.Hosts.{entries_in}
use Rattle.host_state.specs.World.{WorldView}
use Rattle.host_state.proofs.HostLemmas.{get-hosts_of}
use Rattle.bt_changes.proofs.world.World.attr.Goals as goal

pub returns : goal.returns
returns g c =
    c.attr_if_live.ensures
    ∙ ap (λ o. attr_if_live (if_live o)) (sym (get-hosts_of c.self.inside.host.objects.by_id (entries_in c.self.inside.host.entries) c.args.id))
    ∙ ap (λ (w : WorldView). attr_if_live (live_map w.state c.args.id)) c.self.view_is
