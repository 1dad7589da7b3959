use Rattle.std.proofs.Common.{sym, ◌∙◌, ap, is_some}
use Rattle.std.specs.FinMap as map
use Rattle.host_state.specs.World.{WorldView}
use Rattle.host_state.specs.Hosts.{entries_in}
use Rattle.host_state.proofs.HostLemmas.{get-progs_of}
use Rattle.bt_changes.proofs.world.World.has_prog.Goals as goal

pub returns : goal.returns
returns g c =
    c.has_prog.ensures ∙ sym (ap is_some (get-progs_of (entries_in c.self.inside.host.entries) c.args.id))
    ∙ ap (λ (w : WorldView). is_some (map.get w.state.progs c.args.id)) c.self.view_is
