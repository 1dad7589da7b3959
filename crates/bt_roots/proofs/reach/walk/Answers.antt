use Rattle.std.proofs.Common.{◌≡◌, ◌++◌, ◌∷◌, [], true, refl, inl, inr, arith}
use Rattle.bt_roots.specs.declared.reach.Reached.{Reached}
use Rattle.bt_roots.specs.Reachable.{start, link}
use Rattle.bt_roots.specs.Walk.{has}
use Rattle.bt_roots.proofs.Walking.{from_to_walk, kept_on, only_linked, less_left, closed_on}
use Rattle.bt_roots.proofs.reach.walk.Goals as goal

pub walking-init : goal.walking-init
walking-init c = record {
  kept = λ x h. h;
  only = λ x h. start x h;
  closed = c.requires.started;
}

pub walking-smaller : goal.walking-smaller
walking-smaller c =
    less_left c.args.links.now c.in-Some.from c.walking.reached (record { seen = c.walking.reached.seen; todo = c.pop.new.self }) c.follow.new.reached refl c.in-Some.ensures.items
    c.in_ok-follow.ensures.grows

pub walking-preserved : goal.walking-preserved
walking-preserved c =
    let links = c.args.links.now in
    let from = c.in-Some.from in
    let old = c.walking.reached in
    let popped : Reached = record { seen = c.walking.reached.seen; todo = c.pop.new.self } in
    let new = c.follow.new.reached in
    let last : old.todo.items ≡ popped.todo.items ++ from ∷ [] = c.in-Some.ensures.items in
    let grows = c.in_ok-follow.ensures.grows in
    let before = c.walking.invariant in
    let from_reached : has old from ≡ true = before.closed.todo_reached from (from_to_walk links from old popped new refl last) in
    record {
      kept = λ x h. kept_on links from old popped new refl last grows x (before.kept x h);
      only = λ x h. elim (only_linked links from old popped new refl last grows x h) [
        | inl o ↦ before.only x o
        | inr l ↦ link from x (before.only from from_reached) l
      ];
      closed = closed_on links from old popped new refl last grows c.in_ok-follow.ensures.added before.closed;
    }

pub returns-clause-closed : goal.returns-clause-closed
returns-clause-closed c = λ x y h l.
    elim (c.walking.invariant.closed.closed x y h l) [
      | inl there ↦ there
      | inr (k, lt, e) ↦ absurd (omega (arith, c.in_default.ensures.cases))
    ]
