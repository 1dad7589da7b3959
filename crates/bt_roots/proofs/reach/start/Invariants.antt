use Rattle.std.proofs.Common.{◌≡◌, ℕ, ◌<◌, true, get_or, Contains}
use Rattle.bt_roots.specs.declared.target.Target.{Target}
use Rattle.bt_roots.specs.Walk.{Grows, has}
use Rattle.bt_roots.proofs.reach.start.Given as goal

abbrev pub invariant-loop-target : goal.invariant-loop-target
invariant-loop-target l = record {
  grows : Grows l.initial.reached l.reached (Contains l.starts);
  added : (k : ℕ) (d : Target) → k < l.target-index → has l.reached (get_or l.starts k d) ≡ true;
}
