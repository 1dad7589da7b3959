use Rattle.std.proofs.Common.{◌↔◌, sym, subst, Contains}
use Rattle.std.proofs.lemmas.Result.{IfOk-weaker}
use Rattle.std.proofs.lemmas.List.Sorted.{Contains-permutation, IsPermutation-sym}
use Rattle.std.proofs.lemmas.Map.Views.{btree_set_contains_iff}
use Rattle.bt_roots.specs.declared.target.Target.{Target}
use Rattle.bt_roots.specs.TargetOrder.{target_order, tied_targets}
use Rattle.bt_roots.specs.Reachable.{IsReachable}
use Rattle.bt_roots.proofs.Walking.{closed_first, walked}
use Rattle.bt_roots.proofs.reach.reachable_from.Goals as goal

pub walk-requires-clause-started : goal.walk-requires-clause-started
walk-requires-clause-started c = closed_first c.args.starts.now _ _ c.in_ok-reached.ensures

pub returns-clause-reachable : goal.returns-clause-reachable
returns-clause-reachable c =
    let starts = c.args.starts.now in
    let links = c.args.links.now in
    let sorted = c.deref.result.now in
    let moved = c.sort_unstable.ensures.permutation in
    let copied = c.in_ok-sorted.ensures.items in
    let lent = c.deref.ensures.value in
    let last = c.walk.new.reached in
    let same : (l : Target × Target) → Contains links l ↔ Contains sorted l = λ l. (
      λ h. subst (λ ls. Contains ls l) (sym lent) (Contains-permutation _ _ l moved (subst (λ ls. Contains ls l) (sym copied) h)),
      λ h. subst (λ ls. Contains ls l) copied (Contains-permutation _ _ l (IsPermutation-sym _ _ moved) (subst (λ ls. Contains ls l) lent h)),
    ) in
    let exact : (x : Target) → Contains last.seen.keys x ↔ IsReachable (Contains starts) links x = λ x.
    let among = btree_set_contains_iff target_order tied_targets last.seen x in
    let reached = walked starts links sorted c.in_ok-reached.reached last c.in_ok-reached.ensures same c.in_ok-walk.ensures.kept c.in_ok-walk.ensures.only c.in_ok-walk.ensures.closed x in
    (λ h. reached.0 (among.1 h), λ h. among.0 (reached.1 h)) in
    IfOk-weaker c.ascending.result _ _ (λ live e x. (λ h. (exact x).0 (subst (λ l. Contains l x) e h), λ h. subst (λ l. Contains l x) (sym e) ((exact x).1 h))) c.ascending.ensures.items
