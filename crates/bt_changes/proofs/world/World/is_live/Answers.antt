use Rattle.std.proofs.Common.{sym, ap, is_some, ◌∙◌}
use Rattle.bt_roots.specs.declared.target.Target.TheVariants.{Map, Prog}
use Rattle.host_state.specs.Hosts.{entries_in}
use Rattle.host_state.specs.Settled.{is_live_in}
use Rattle.host_state.specs.World.{WorldView}
use Rattle.host_state.proofs.HostLemmas.{live_target}
use Rattle.bt_changes.proofs.world.World.is_live.Goals as goal

pub returns-in-Map : goal.returns-in-Map
returns-in-Map g c =
    let h = c.self.inside.host in
    c.is_some.ensures ∙ ap is_some c.frozen_if_live.ensures
    ∙ live_target h.objects.by_id (entries_in h.entries) h.roots (Map c.in-Map.id) c.self.invariant.built.same_ids
    ∙ ap (λ (w : WorldView). is_live_in w.state (Map c.in-Map.id)) c.self.view_is
    ∙ ap (is_live_in c.args.self.now.state) (sym c.in-Map.is)

pub returns-in-Prog : goal.returns-in-Prog
returns-in-Prog g c =
    let h = c.self.inside.host in
    c.is_live_prog.ensures
    ∙ live_target h.objects.by_id (entries_in h.entries) h.roots (Prog c.in-Prog.id) c.self.invariant.built.same_ids
    ∙ ap (λ (w : WorldView). is_live_in w.state (Prog c.in-Prog.id)) c.self.view_is
    ∙ ap (is_live_in c.args.self.now.state) (sym c.in-Prog.is)
