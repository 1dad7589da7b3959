use Rattle.std.proofs.Common.{arith, ap, sym, ◌++◌, ◌∙◌, List, ℕ, Option}
use Rattle.std.proofs.lemmas.Bool.Decides.{nat_tests}
use Rattle.bt_mapkind.specs.declared.attr.MapAttr.{MapAttr}
use Rattle.host_state.specs.State.{HostProg}
use Rattle.host_retirement.specs.Gathered.{links_by_prog}
use Rattle.host_retirement.proofs.GatherLemmas.{uses_of, one_used, all_used}
use Rattle.host_retirement.proofs.retire.add_prog_links.Goals as goal

pub loop-map-preserved : goal.loop-map-preserved
loop-map-preserved c =
    let maps = c.maps-map-items.result.now in
    let i = c.loop-map.map-index in (
      omega (arith, nat_tests, c.loop-map-test.true),
      one_used c.args.id i maps _ c.loop-map.links.items c.push.new.self.items (c.args.links.now.items ++ uses_of c.args.id maps) c.loop-map-test.true c.loop-map.invariant.1 c.in_ok-push.ensures.items,
    )

pub returns : goal.returns
returns c =
    all_used c.args.id c.loop-map.map-index c.maps-map-items.result.now c.loop-map.links.items (c.args.links.now.items ++ uses_of c.args.id c.maps-map-items.result.now) c.loop-map-test.false
    c.loop-map.invariant.1
    ∙ ap (λ (ms : List (ℕ × MapAttr)). c.args.links.now.items ++ uses_of c.args.id ms) c.maps-map-items.ensures
    ∙ ap (λ (o : Option HostProg). c.args.links.now.items ++ links_by_prog c.args.id o) (sym c.in-Some.is)
