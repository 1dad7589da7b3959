use Rattle.std.proofs.Common.{refl, Contains}
use Rattle.bt_roots.specs.declared.target.Target.{Target}
use Rattle.bt_roots.proofs.Walking.{grows_then, grows_as, linked_item, added_more, added_all}
use Rattle.bt_roots.proofs.reach.follow.Goals as goal

pub loop-link-preserved : goal.loop-link-preserved
loop-link-preserved c =
    let links = c.args.links.now in
    let items = c.links_from-link-items.result.now in
    let from = c.args.from in
    let step = c.in_ok-add.ensures.grows in
    record {
      grows = grows_then {P = λ x. Contains links (from, x)} _ _ _ c.loop-link.invariant.grows
          (grows_as {P = λ x. Contains links (from, x)} _ _ (linked_item links items from c.loop-link.link-index _ c.links_from-link-items.ensures c.loop-link-test.true) step);
      added = added_more (λ (l : Target × Target). l.1) items c.loop-link.link-index _ c.loop-link.reached c.add.new.self c.loop-link-test.true step.kept c.loop-link.invariant.added c.in_ok-add.ensures.added;
    }

pub returns-clause-added : goal.returns-clause-added
returns-clause-added c = λ x h.
    let there = (c.links_from-link-items.ensures (c.args.from, x)).1 (h, refl) in
    added_all (λ (l : Target × Target). l.1) c.links_from-link-items.result.now c.loop-link.link-index c.loop-link.reached c.loop-link-test.false c.loop-link.invariant.added (c.args.from, x) there
