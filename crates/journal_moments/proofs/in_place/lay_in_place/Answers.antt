use Rattle.std.proofs.Common.{[], ◌∷◌, ◌++◌, refl, sym, ◌∙◌, ap, subst, arith, vec_capacity}
use Rattle.journal_moments.specs.MomentView.{MomentView, taking_view}
use Rattle.journal_moments.specs.Swaps.{Exchanges}
use Rattle.journal_moments.proofs.InPlaceLemmas.{are_well, lay_fits, lay_exchanges}
use Rattle.journal_record.proofs.TurnLemmas.{turned_once}
use Rattle.journal_moments.proofs.in_place.lay_in_place.Goals as goal

pub turn-requires-after_bounds : goal.turn-requires-after_bounds
turn-requires-after_bounds g c κs within =
    lay_fits c.args.world.now c.args.records.now.items _ (taking_view c.args.taking.now) c.requires.stay c.requires.leads c.requires.can (are_well _ c.maps_are_well.ensures) c.requires.stands
    c.take_out-record.result _ c.take_out-record.ensures.one

pub returns-clause-exchanges : goal.returns-clause-exchanges
returns-clause-exchanges g c =
    let m : MomentView = taking_view c.args.taking.now in
    let n : MomentView = record { serial = m.serial; out = m.out; at = m.at; stays = m.stays; other = c.swap.new.x.items; room = vec_capacity c.swap.new.y } in
    subst (λ xs. Exchanges c.args.world.now c.args.records.now.items m c.turn.new.world xs n) (sym c.take_out-record.ensures.others)
    (lay_exchanges c.args.world.now c.args.records.now.items _ m c.requires.stay c.requires.leads c.requires.can (are_well _ c.maps_are_well.ensures) c.requires.stands
    c.take_out-record.result _ c.take_out-record.ensures.one c.turn.new.world c.turn.new.self n c.args.taking.now.out
    (record { state = c.turn.ensures.state; ready = c.turn.ensures.ready; undoing = c.turn.ensures.undoing; entry = c.turn.ensures.entry; work = turned_once c.take_out-record.result.undoing _ _ c.turn.ensures.work })
    (record { at = refl; serial = refl; out = refl; stays = refl; room = omega (arith, ap (λ v. vec_capacity v) c.swap.ensures.y_after, c.args.taking.now.other.ok.0, c.args.taking.now.other.ok.1) })
    (ap (λ v. v.items) c.swap.ensures.x_after ∙ c.in-Ok.ensures.items ∙ ap (λ xs. xs ++ c.turn.new.self ∷ []) c.requires.spare)
    refl)
