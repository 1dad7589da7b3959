use Rattle.std.proofs.Common.{sym, subst, ◌∙◌}
use Rattle.bt_objects.specs.Boxes.{ById}
use Rattle.bt_mapkind.specs.Seen.{Seen}
use Rattle.bt_roots.specs.View.{RootsView}
use Rattle.host_state.specs.Hosts.{Entries, IsSound, view_of}
use Rattle.bt_changes.proofs.PlacedLemmas.{new_view, new_sound}
use Rattle.bt_changes.proofs.world.World.new.Goals as goal

pub invariant_of-result : goal.invariant_of-result
invariant_of-result g c =
    subst (λ (x : ById Seen × (Entries × RootsView)). IsSound x.0 x.1.0 x.1.1)
    (λ i. (sym c.new-2.ensures.none i, (record { maps = sym c.new-3.ensures.empty i; progs = sym c.new-4.ensures.empty i }, sym c.in_ok-roots.ensures i))) (new_sound c.args.devices.items)

pub returns : goal.returns
returns g c =
    (λ i. view_of (c.new-2.ensures.none i) (record { maps = c.new-3.ensures.empty i; progs = c.new-4.ensures.empty i }) (c.in_ok-roots.ensures i) c.new-2.result.work) ∙ new_view c.args.devices.items c.new-2.result.work c.new-2.ensures.work
