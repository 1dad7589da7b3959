use Rattle.std.proofs.Common.{List, length, refl, sym, ◌∙◌, ap, subst, arith, vec_capacity}
use Rattle.journal_record.specs.Recorded.{Recorded}
use Rattle.journal_moments.specs.MomentView.{MomentView, taking_view}
use Rattle.journal_moments.specs.Swaps.{Exchanges}
use Rattle.journal_moments.proofs.InPlaceLemmas.{are_well, lies, stand_room, stand_fits, stand_exchanges}
use Rattle.journal_record.proofs.TurnLemmas.{turned_once}
use Rattle.journal_moments.proofs.in_place.stand_in_place.Goals as goal

pub turn-requires-after_bounds : goal.turn-requires-after_bounds
turn-requires-after_bounds g c κs within =
    let m : MomentView = taking_view c.args.taking.now in
    let w = are_well _ c.maps_are_well.ensures in
    let l = lies c.args.world.now c.args.records.now.items _ m c.requires.stay c.requires.leads c.requires.can w c.in-Some.record c.pop.new.self.items c.in-Some.ensures.items in
    stand_fits c.args.world.now c.args.records.now.items _ m c.requires.stay c.requires.leads c.requires.can w l.other l.none c.in-Some.record l.r_is

pub put_in-requires-clause-room : goal.put_in-requires-clause-room
put_in-requires-clause-room g c =
    let m : MomentView = taking_view c.args.taking.now in
    let w = are_well _ c.maps_are_well.ensures in
    let l = lies c.args.world.now c.args.records.now.items _ m c.requires.stay c.requires.leads c.requires.can w c.in-Some.record c.pop.new.self.items c.in-Some.ensures.items in
    omega (
      arith,
      c.args.records.now.ok.0,
      c.requires.can.room_forth,
      ap (λ (xs : List Recorded). length xs) l.other,
      stand_room c.args.world.now c.args.records.now.items _ m c.requires.stay c.requires.leads c.requires.can w l.other l.none,
    )

pub returns-clause-exchanges : goal.returns-clause-exchanges
returns-clause-exchanges g c =
    let m : MomentView = taking_view c.args.taking.now in
    let n : MomentView = record { serial = m.serial; out = m.out; at = m.at; stays = m.stays; other = c.swap.new.x.items; room = vec_capacity c.swap.new.y } in
    let w = are_well _ c.maps_are_well.ensures in
    let l = lies c.args.world.now c.args.records.now.items _ m c.requires.stay c.requires.leads c.requires.can w c.in-Some.record c.pop.new.self.items c.in-Some.ensures.items in
    subst (λ xs. Exchanges c.args.world.now c.args.records.now.items m c.turn.new.world xs n) (sym c.put_in.ensures.items)
    (stand_exchanges c.args.world.now c.args.records.now.items _ m c.requires.stay c.requires.leads c.requires.can w l.other l.none
    c.in-Some.record l.r_is c.turn.new.world c.turn.new.self n c.args.taking.now.out
    (record { state = c.turn.ensures.state; ready = c.turn.ensures.ready; undoing = c.turn.ensures.undoing; entry = c.turn.ensures.entry; work = turned_once c.in-Some.record.undoing _ _ c.turn.ensures.work })
    (record { at = refl; serial = refl; out = refl; stays = refl; room = omega (arith, ap (λ v. vec_capacity v) c.swap.ensures.y_after, c.in-Some.ensures.capacity, c.args.taking.now.other.ok.0, c.args.taking.now.other.ok.1) })
    (ap (λ v. v.items) c.swap.ensures.x_after ∙ c.requires.spare)
    refl)

pub returns-clause-spare : goal.returns-clause-spare
returns-clause-spare g c =
    let w = are_well _ c.maps_are_well.ensures in
    let l = lies c.args.world.now c.args.records.now.items _ (taking_view c.args.taking.now) c.requires.stay c.requires.leads c.requires.can w c.in-Some.record c.pop.new.self.items c.in-Some.ensures.items in
    ap (λ v. v.items) c.swap.ensures.y_after ∙ l.rest_is
