use Rattle.host_state.specs.Hosts.{entries_in}
use Rattle.std.proofs.Common.{sym, ap, subst, ◌∙◌}
use Rattle.host_state.specs.World.{Ready, WorldView, ListsLive, kept_state, kept_ready}
use Rattle.host_undoing.specs.Exchange.{Joins}
use Rattle.host_undoing.proofs.DroppedLemmas.{joins_dropped}
use Rattle.bt_changes.proofs.PlacedLemmas.{dropped_state, dropped_ready, dropped_sound}
use Rattle.bt_changes.proofs.world.World.drop_unreachable.Goals as goal

pub invariant_of-self : goal.invariant_of-self
invariant_of-self g c =
    dropped_sound c.self.inside.host.objects.by_id c.drop_unreachable.new.self.by_id (entries_in c.self.inside.host.entries) (entries_in c.keep_entries.new.entries) c.self.inside.host.roots c.args.keep.now.maps.items c.args.keep.now.progs.items
    c.self.invariant c.drop_unreachable.ensures.kept (record { maps_kept = c.keep_entries.ensures.maps; progs_kept = c.keep_entries.ensures.progs })
    (subst (λ (w : WorldView). ListsLive c.args.keep.now.maps.items c.args.keep.now.progs.items w.state) (sym c.self.view_is) c.requires)

pub returns-clause-state : goal.returns-clause-state
returns-clause-state g c =
    dropped_state c.self.inside.host.objects.by_id c.drop_unreachable.new.self.by_id (entries_in c.self.inside.host.entries) (entries_in c.keep_entries.new.entries) c.self.inside.host.roots c.args.keep.now.maps.items c.args.keep.now.progs.items
    c.self.invariant c.drop_unreachable.ensures.kept (record { maps_kept = c.keep_entries.ensures.maps; progs_kept = c.keep_entries.ensures.progs })
    (subst (λ (w : WorldView). ListsLive c.args.keep.now.maps.items c.args.keep.now.progs.items w.state) (sym c.self.view_is) c.requires)
    ∙ ap (λ (w : WorldView). kept_state c.args.keep.now.maps.items c.args.keep.now.progs.items w.state) c.self.view_is

pub returns-clause-ready : goal.returns-clause-ready
returns-clause-ready g c =
    dropped_ready c.self.inside.host.objects.by_id c.drop_unreachable.new.self.by_id (entries_in c.self.inside.host.entries) (entries_in c.keep_entries.new.entries) c.self.inside.host.roots c.args.keep.now.maps.items c.args.keep.now.progs.items
    c.self.invariant c.drop_unreachable.ensures.kept (record { maps_kept = c.keep_entries.ensures.maps; progs_kept = c.keep_entries.ensures.progs })
    (subst (λ (w : WorldView). ListsLive c.args.keep.now.maps.items c.args.keep.now.progs.items w.state) (sym c.self.view_is) c.requires)
    ∙ ap (λ (w : WorldView). kept_ready c.args.keep.now.maps.items c.args.keep.now.progs.items w.ready) c.self.view_is

pub returns-clause-joins : goal.returns-clause-joins
returns-clause-joins g c = λ before after back forth joins first second.
    subst (λ (ready : Ready). Joins ready (kept_state c.args.keep.now.maps.items c.args.keep.now.progs.items before) (kept_state c.args.keep.now.maps.items c.args.keep.now.progs.items after) back forth)
    (sym (returns-clause-ready g c))
    (joins_dropped c.args.keep.now.maps.items c.args.keep.now.progs.items c.args.self.now.ready before after back forth joins first second)
