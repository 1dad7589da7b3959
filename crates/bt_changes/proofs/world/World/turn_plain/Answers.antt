use Rattle.host_state.specs.Hosts.{RevivesEntries, entries_in}
use Rattle.std.proofs.Common.{[], not, refl, sym, ap, subst, ◌∙◌}
use Rattle.host_state.specs.World.{WorldView}
use Rattle.host_state.specs.Settled.{IsSettled, revived}
use Rattle.host_undoing.specs.Exchange.{turned, back_of, Fits, undoing_of}
use Rattle.host_state.proofs.ReviveLemmas.{revived_state}
use Rattle.host_undoing.proofs.TurnedLemmas.{fits_box, contents_state, contents_undoing, contents_ready, contents_built}
use Rattle.bt_changes.proofs.world.World.turn_plain.Goals as goal

pub turn_contents-requires-after_bounds : goal.turn_contents-requires-after_bounds
turn_contents-requires-after_bounds g c κs within =
    let fits = subst (λ (w : WorldView). Fits w.ready w.state (undoing_of c.args.undoing.now)) (sym c.self.view_is) c.requires in
    fits_box c.self.inside.host.objects.by_id (entries_in c.self.inside.host.entries) c.self.inside.host.roots c.args.undoing.now.map c.args.undoing.now.kept fits.place

-- nothing retired, so the entries stay
pub invariant_of-self : goal.invariant_of-self
unfolding turned
invariant_of-self g c =
    let fits = subst (λ (w : WorldView). Fits w.ready w.state (undoing_of c.args.undoing.now)) (sym c.self.view_is) c.requires in
    let entries = entries_in c.self.inside.host.entries in
    let roots = c.self.inside.host.roots in
    let none : RevivesEntries entries entries [] c.args.undoing.now.live = record { maps = λ q. refl; progs = λ q. refl } in record {
      built = contents_built c.self.inside.host.objects.by_id c.turn_contents.new.objects.by_id entries roots c.args.undoing.now.map c.args.undoing.now.kept c.turn_contents.new.kept c.self.invariant.built fits.place c.turn_contents.ensures.turned;
      settled = subst IsSettled
          (sym (revived_state c.turn_contents.new.objects.by_id entries entries [] c.args.undoing.now.live none roots
          ∙ ap (λ s. revived s [] c.args.undoing.now.live) (contents_state c.self.inside.host.objects.by_id c.turn_contents.new.objects.by_id entries roots c.args.undoing.now.map c.args.undoing.now.kept c.turn_contents.new.kept c.self.invariant.built fits.place c.turn_contents.ensures.turned)))
          fits.settled;
    }

pub returns-clause-state : goal.returns-clause-state
unfolding turned
returns-clause-state g c =
    let fits = subst (λ (w : WorldView). Fits w.ready w.state (undoing_of c.args.undoing.now)) (sym c.self.view_is) c.requires in
    let entries = entries_in c.self.inside.host.entries in
    let roots = c.self.inside.host.roots in
    let none : RevivesEntries entries entries [] c.args.undoing.now.live = record { maps = λ q. refl; progs = λ q. refl } in
    revived_state c.turn_contents.new.objects.by_id entries entries [] c.args.undoing.now.live none roots
    ∙ ap (λ s. revived s [] c.args.undoing.now.live) (contents_state c.self.inside.host.objects.by_id c.turn_contents.new.objects.by_id entries roots c.args.undoing.now.map c.args.undoing.now.kept c.turn_contents.new.kept c.self.invariant.built fits.place c.turn_contents.ensures.turned)
    ∙ ap (λ (w : WorldView). turned w.state (undoing_of c.args.undoing.now)) c.self.view_is

pub returns-clause-undoing : goal.returns-clause-undoing
unfolding back_of
returns-clause-undoing g c =
    let fits = subst (λ (w : WorldView). Fits w.ready w.state (undoing_of c.args.undoing.now)) (sym c.self.view_is) c.requires in
    let part = contents_undoing c.self.inside.host.objects.by_id c.turn_contents.new.objects.by_id (entries_in c.self.inside.host.entries) c.self.inside.host.roots c.args.undoing.now.map c.args.undoing.now.kept c.turn_contents.new.kept c.self.invariant.built fits.place c.turn_contents.ensures.turned in
    (λ i. record { part = part i; retired = record { targets = []; live = not c.args.undoing.now.live } })
    ∙ ap (λ (w : WorldView). back_of w.state (undoing_of c.args.undoing.now)) c.self.view_is

pub returns-clause-ready : goal.returns-clause-ready
returns-clause-ready g c =
    let fits = subst (λ (w : WorldView). Fits w.ready w.state (undoing_of c.args.undoing.now)) (sym c.self.view_is) c.requires in
    contents_ready c.self.inside.host.objects.by_id c.turn_contents.new.objects.by_id (entries_in c.self.inside.host.entries) c.self.inside.host.roots c.args.undoing.now.map c.args.undoing.now.kept c.turn_contents.new.kept c.self.invariant.built fits.place c.turn_contents.ensures.turned
    ∙ ap (λ (w : WorldView). w.ready) c.self.view_is
