use Rattle.std.proofs.Common.{sym, subst, Contains}
use Rattle.std.proofs.lemmas.List.Elements.{Contains-get_or}
use Rattle.bt_roots.specs.declared.target.Target.{Target}
use Rattle.bt_roots.proofs.Walking.{grows_then, grows_as, started_by, added_more, added_all}
use Rattle.bt_roots.proofs.reach.start.Goals as goal

pub loop-target-preserved : goal.loop-target-preserved
loop-target-preserved c =
    let starts = c.args.starts.now in
    let i = c.loop-target.target-index in
    let step = c.in_ok-add.ensures.grows in
    record {
      grows = grows_then {P = Contains starts} _ _ _ c.loop-target.invariant.grows
          (grows_as {P = Contains starts} _ _ (λ x e. subst (Contains starts) (sym e) (Contains-get_or starts i _ c.loop-target-test.true)) step);
      added = added_more (λ (x : Target). x) starts i _ c.loop-target.reached c.add.new.self c.loop-target-test.true step.kept c.loop-target.invariant.added c.in_ok-add.ensures.added;
    }

pub returns : goal.returns
returns c =
    started_by c.args.starts.now _ c.loop-target.reached c.new.ensures.empty c.new-2.ensures.items c.loop-target.invariant.grows
    (added_all (λ (x : Target). x) c.args.starts.now c.loop-target.target-index c.loop-target.reached c.loop-target-test.false c.loop-target.invariant.added)
