use Rattle.std.proofs.Common.{◌≡◌, true, map}
use Rattle.bt_roots.specs.declared.target.Target.{Target}
use Rattle.bt_roots.specs.Reachable.{IsReachable}
use Rattle.bt_roots.specs.Walk.{IsClosedBut, has, left}
use Rattle.bt_roots.proofs.reach.walk.Given as goal

abbrev pub invariant-walking : goal.invariant-walking
invariant-walking l = record {
  kept : (x : Target) → has l.initial.reached x ≡ true → has l.reached x ≡ true;
  only : (x : Target) → has l.reached x ≡ true → IsReachable (λ y. has l.initial.reached y ≡ true) l.links x;
  closed : IsClosedBut l.reached l.links;
}

abbrev pub decreases-walking : goal.decreases-walking
decreases-walking l = left (map (λ link. link.1) l.links) l.reached
