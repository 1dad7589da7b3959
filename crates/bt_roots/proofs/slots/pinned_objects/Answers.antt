use Rattle.std.proofs.Common.{◌↔◌, rules, tests, sym, subst, Contains}
use Rattle.std.proofs.lemmas.Iterator.{items_from_collect}
use Rattle.std.proofs.lemmas.Iterator.Consumers.{YieldsList-from_filter_map, YieldsList-from_rest, YieldsList-at}
use Rattle.std.proofs.lemmas.Result.{IfOk-weaker}
use Rattle.std.specs.BTreeMap.{values}
use Rattle.bt_roots.specs.Slots.{pins_of}
use Rattle.bt_roots.specs.Reachable.{IsPinned}
use Rattle.bt_roots.proofs.Starts.{pinned_values}
use Rattle.bt_roots.proofs.slots.pinned_objects.Goals as goal

pub returns : goal.returns
returns c =
    let slots = c.args.slots.now in
    let listed = items_from_collect _ c.collect.ensures.ran
    (YieldsList-from_filter_map _ (λ o. o) (YieldsList-at c.filter_map.ensures.source (YieldsList-from_rest (values slots) c.values.ensures.rest)) c.filter_map.ensures.closure
    (λ x r q k. search (rules, tests))) in
    IfOk-weaker c.collect.result _ _ (λ objects e t. subst (λ l. Contains l t ↔ IsPinned (pins_of slots.entries) t) (sym e) (pinned_values slots c.values.ensures.ordered t)) listed
