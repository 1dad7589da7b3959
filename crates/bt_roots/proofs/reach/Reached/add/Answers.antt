use Rattle.std.proofs.Common.{◌≡◌, ◌++◌, ◌∷◌, [], true, false, cond, arith}
use Rattle.std.proofs.lemmas.Grind.{common_steps}
use Rattle.std.specs.Ordering.{is_eq}
use Rattle.bt_roots.specs.declared.target.Target.{Target}
use Rattle.bt_roots.specs.declared.reach.Reached.{Reached}
use Rattle.bt_roots.specs.TargetOrder.{target_cmp}
use Rattle.bt_roots.specs.Walk.{has}
use Rattle.bt_roots.proofs.Growth.{grows_by_one, was_fresh}
use Rattle.bt_roots.proofs.reach.Reached.add.Goals as goal

pub returns-in_ok-push-clause-grows : goal.returns-in_ok-push-clause-grows
returns-in_ok-push-clause-grows c =
    let new : Reached = record { seen = c.insert.new.self; todo = c.push.new.self } in
    let seen : (q : Target) → has new q ≡ cond (is_eq (target_cmp c.args.target q)) true (has c.args.self.now q) = c.in_ok-insert.ensures.updates.0 in
    let fresh : has c.args.self.now c.args.target ≡ false = was_fresh _ _ c.in_ok-insert.ensures.added c.if-branch.true in
    let pushed : new.todo.items ≡ c.args.self.now.todo.items ++ c.args.target ∷ [] = grind (arith, common_steps) in
    grows_by_one c.args.self.now new c.args.target seen fresh pushed
