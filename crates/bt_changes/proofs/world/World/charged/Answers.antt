use Rattle.std.proofs.Common.{sym, ap, ◌∙◌}
use Rattle.host_state.specs.World.{WorldView, charged_of}
use Rattle.host_state.proofs.HostLemmas.{charged_same}
use Rattle.bt_changes.proofs.world.World.charged.Goals as goal

pub returns : goal.returns
returns g c = c.charged.ensures ∙ sym (charged_same c.self.inside.host.objects.by_id) ∙ ap (λ (w : WorldView). charged_of w.ready.makes) c.self.view_is
