use Rattle.host_state.specs.Hosts.{entries_in}
use Rattle.std.proofs.Common.{◌≡◌, ◌+◌, ◌<◌, is_some, sym, ap, subst, ◌∙◌}
use Rattle.std.specs.FinMap as map
use Rattle.bt_objects.specs.Boxes.{make_of}
use Rattle.host_state.specs.World.{WorldView, charged_of}
use Rattle.host_state.proofs.HostLemmas.{charged_same}
use Rattle.bt_changes.proofs.PlacedLemmas.{on_ok, after_place, makes_placed, there_too}
use Rattle.bt_changes.proofs.world.World.place.Goals as goal

pub place_in-requires-clause-charge : goal.place_in-requires-clause-charge
place_in-requires-clause-charge g c κs within =
    subst (λ n. n + (g.K.MapKind.seen c.args.kind).charge < 18446744073709551616) (sym (ap (λ (w : WorldView). charged_of w.ready.makes) c.self.view_is) ∙ charged_same c.self.inside.host.objects.by_id) c.requires

pub invariant_of-self : goal.invariant_of-self
invariant_of-self g c =
    (after_place c.self.inside.host.objects.by_id c.place_in.new.objects.by_id (entries_in c.self.inside.host.entries) (entries_in c.place_in.new.entries) c.self.inside.host.roots c.args.id (g.K.MapKind.seen c.args.kind) c.self.invariant
    (c.is_fresh.ensures.0 c.if-not-is_fresh.false) c.place_in.result c.place_in.ensures.id_taken.1 c.place_in.ensures.boxes c.place_in.ensures.entries c.place_in.ensures.same_boxes c.place_in.ensures.same_entries).0

pub returns-clause-id_taken : goal.returns-clause-id_taken
returns-clause-id_taken g c =
    let fresh = c.is_fresh.ensures.0 c.if-not-is_fresh.false in
    let same : is_some (map.get c.self.inside.host.objects.by_id c.args.id) ≡ is_some (map.get c.args.self.now.ready.makes c.args.id) =
    sym (there_too c.self.inside.host.objects.by_id c.args.id) ∙ ap (λ (w : WorldView). is_some (map.get w.ready.makes c.args.id)) c.self.view_is in
    (λ e. (fresh, sym same ∙ c.place_in.ensures.id_taken.0 e), λ p. c.place_in.ensures.id_taken.1 (same ∙ p.1))

pub returns-clause-placed : goal.returns-clause-placed
returns-clause-placed g c =
    on_ok c.place_in.result (λ is.
    makes_placed c.self.inside.host.objects.by_id c.place_in.new.objects.by_id c.args.id (g.K.MapKind.seen c.args.kind) is
    ∙ ap (λ (w : WorldView). map.insert w.ready.makes c.args.id (make_of (g.K.MapKind.seen c.args.kind))) c.self.view_is) c.place_in.ensures.boxes

pub returns-clause-state : goal.returns-clause-state
returns-clause-state g c =
    (after_place c.self.inside.host.objects.by_id c.place_in.new.objects.by_id (entries_in c.self.inside.host.entries) (entries_in c.place_in.new.entries) c.self.inside.host.roots c.args.id (g.K.MapKind.seen c.args.kind) c.self.invariant
    (c.is_fresh.ensures.0 c.if-not-is_fresh.false) c.place_in.result c.place_in.ensures.id_taken.1 c.place_in.ensures.boxes c.place_in.ensures.entries c.place_in.ensures.same_boxes c.place_in.ensures.same_entries).1
    ∙ ap (λ (w : WorldView). w.state) c.self.view_is
