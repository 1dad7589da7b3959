use Rattle.std.proofs.Common.{◌≡◌, ◌<◌, length, refl, sym, ◌∙◌, arith}
use Rattle.std.proofs.lemmas.Bool.Decides.{nat_tests}
use Rattle.kept_event.proofs.MapsRead.{one_more, all_read, never_stuck, behind_is}
use Rattle.kept_event.proofs.maps.maps_in.Goals as goal

pub returns-in_default : goal.returns-in_default
returns-in_default c maps fits e =
    let some : 0 < length c.loop-rest.rest.now = grind (arith, nat_tests) in
    never_stuck maps c.loop-rest.maps.items c.loop-rest.rest.now (c.loop-rest.invariant maps fits e) some (sym c.first_map.ensures.map ∙ c.in_default.is)

pub loop-rest-preserved : goal.loop-rest-preserved
loop-rest-preserved c maps fits e =
    let some : 0 < length c.loop-rest.rest.now = grind (arith, nat_tests) in
    let rest = c.loop-rest.rest.now in
    rw c.in_ok-push.ensures.items (one_more maps c.loop-rest.maps.items rest _ c.in-Some.map (c.loop-rest.invariant maps fits e) some (sym c.first_map.ensures.map ∙ c.in-Some.is) (behind_is 24 rest _ refl))

pub returns : goal.returns
returns c maps fits e =
    let none : length c.loop-rest.rest.now ≡ 0 = grind (arith, nat_tests) in
    all_read maps c.loop-rest.maps.items c.loop-rest.rest.now (c.loop-rest.invariant maps fits e) none
