use Rattle.std.proofs.Common.{◌-◌, arith, ap, refl}
use Rattle.std.proofs.lemmas.List.{get_or_default}
use Rattle.kept_event.proofs.MapsRead.{Map, no_map}
use Rattle.kept_event.proofs.CodeRead.{ascend_first, ascend_more, ascend_all}
use Rattle.kept_event.proofs.maps.ascend.Goals as goal

pub places-init : goal.places-init
places-init c = ascend_first c.args.maps.now

pub places-preserved : goal.places-preserved
places-preserved c = ascend_more c.args.maps.now c.places.place c.places.auto.place c.places.invariant (λ d.
    let maps = c.args.maps.now in
    let place = c.places.place in
    let low = ap (λ (m : Map). m.0) (get_or_default maps (place - 1) d no_map (omega arith)) in
    let high = ap (λ (m : Map). m.0) (get_or_default maps place d no_map (omega arith)) in
    omega (arith, low, high, c.if-maps-place.false))

pub returns : goal.returns
returns c = (λ _. ascend_all c.args.maps.now c.places.place c.places-test.false c.places.invariant, λ _. refl)
