use Rattle.host_state.specs.Hosts.{entries_in}
use Rattle.std.proofs.Common.{sym, ap, subst, ◌∙◌}
use Rattle.host_state.specs.World.{WorldView}
use Rattle.host_state.specs.Settled.{IsSettled, revived}
use Rattle.host_undoing.specs.Exchange.{turned, back_of, Fits}
use Rattle.host_state.proofs.ReviveLemmas.{revived_state, revived_built, revived_room}
use Rattle.bt_objects.specs.Boxes.{make_of}
use Rattle.bt_objects.specs.ById.{mapped}
use Rattle.bt_changes.proofs.world.World.turn.Goals as goal

pub turn_part-requires-clause-fits : goal.turn_part-requires-clause-fits
turn_part-requires-clause-fits g c κs within = (subst (λ (w : WorldView). Fits w.ready w.state c.args.undoing.now) (sym c.self.view_is) c.requires).place

pub invariant_of-self : goal.invariant_of-self
unfolding turned
invariant_of-self g c =
    let fits = subst (λ (w : WorldView). Fits w.ready w.state c.args.undoing.now) (sym c.self.view_is) c.requires in record {
      built = revived_built c.turn_part.new.objects.by_id (entries_in c.turn_part.new.entries) (entries_in c.turn_retired.new.entries) c.args.undoing.now.retired.targets c.args.undoing.now.retired.live c.turn_retired.ensures.entries c.turn_part.ensures.built;
      settled = subst IsSettled
          (sym (revived_state c.turn_part.new.objects.by_id (entries_in c.turn_part.new.entries) (entries_in c.turn_retired.new.entries) c.args.undoing.now.retired.targets c.args.undoing.now.retired.live c.turn_retired.ensures.entries c.turn_part.new.roots ∙ ap (λ s. revived s c.args.undoing.now.retired.targets c.args.undoing.now.retired.live) c.turn_part.ensures.state))
          fits.settled;
    }

pub returns-clause-state : goal.returns-clause-state
unfolding turned
returns-clause-state g c =
    revived_state c.turn_part.new.objects.by_id (entries_in c.turn_part.new.entries) (entries_in c.turn_retired.new.entries) c.args.undoing.now.retired.targets c.args.undoing.now.retired.live c.turn_retired.ensures.entries c.turn_part.new.roots
    ∙ ap (λ s. revived s c.args.undoing.now.retired.targets c.args.undoing.now.retired.live) c.turn_part.ensures.state
    ∙ ap (λ (w : WorldView). turned w.state c.args.undoing.now) c.self.view_is

pub returns-clause-undoing : goal.returns-clause-undoing
unfolding back_of
returns-clause-undoing g c =
    (λ i. record { part = c.turn_part.ensures.part i; retired = c.turn_retired.ensures.retired i })
    ∙ ap (λ (w : WorldView). back_of w.state c.args.undoing.now) c.self.view_is

pub returns-clause-ready : goal.returns-clause-ready
returns-clause-ready g c =
    (λ i. record {
      makes = mapped (λ id s. make_of s) c.turn_part.new.objects.by_id;
      progs = revived_room c.turn_part.new.objects.by_id (entries_in c.turn_part.new.entries) (entries_in c.turn_retired.new.entries) c.args.undoing.now.retired.targets c.args.undoing.now.retired.live c.turn_retired.ensures.entries i;
      room = c.turn_part.new.roots.room;
    })
    ∙ c.turn_part.ensures.ready ∙ ap (λ (w : WorldView). w.ready) c.self.view_is
