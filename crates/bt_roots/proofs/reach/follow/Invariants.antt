use Rattle.std.proofs.Common.{◌≡◌, ℕ, ◌<◌, true, get_or, Contains}
use Rattle.bt_roots.specs.declared.target.Target.{Target}
use Rattle.bt_roots.specs.Walk.{Grows, has}
use Rattle.bt_roots.proofs.reach.follow.Given as goal

abbrev pub invariant-loop-link : goal.invariant-loop-link
invariant-loop-link l = record {
  grows : Grows l.initial.reached l.reached (λ x. Contains l.links (l.fn.from, x));
  added : (k : ℕ) (d : Target × Target) → k < l.link-index → has l.reached (get_or l.link-items k d).1 ≡ true;
}
