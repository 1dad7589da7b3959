use Rattle.std.proofs.Common.{◌≡◌, ◌++◌, [], length, ap, subst, ◌∙◌}
use Rattle.thread_frames.specs.Takes.{all_of, taken_of}
use Rattle.bt_workers.specs.Worked.{ServesFrames, numbers_of}
use Rattle.bt_workers.proofs.Working.{works_ok, serves_more}
use Rattle.bt_workers.proofs.InOrder.{all_in_order, taken_each}
use Rattle.bt_workers.proofs.two.run_two.Goals as goal

pub returns-clause-works : goal.returns-clause-works
returns-clause-works g c =
    let left = c.in-Some-work_beside.first in
    let right = c.in-Some-work_beside.second in
    let all = all_of c.args.take in
    let one = works_ok _ _ _ _ _ _ _ _ c.in-Some-work_beside.ensures.first c.in_ok-ones.was in
    let two = works_ok _ _ _ _ _ _ _ _ c.in-Some-work_beside.ensures.second c.in_ok-twos.was in
    let same : all_of c.split.new.take ≡ all = c.in-Some.ensures.same.1 in
    let other : all_of c.in-Some.other ≡ all = c.in-Some.ensures.new.1 in
    record {
      ones = c.in_ok-ones.ones.items ++ c.in_ok-rest.rest.items;
      twos = c.in_ok-twos.twos.items;
      by_first = serves_more all c.args.first _ _ _ _ (subst (λ fs. ServesFrames fs c.args.first c.in_ok-ones.ones.items left.0) same one.serves)
          (subst (λ fs. ServesFrames fs left.0 c.in_ok-rest.rest.items c.serve_rest.new.seat) (one.same_all ∙ same) c.in_ok-rest.ensures.served);
      by_second = subst (λ fs. ServesFrames fs c.args.second c.in_ok-twos.twos.items right.0) other two.serves;
      order = c.in_ok-in_order.ensures.order;
    }

pub returns-clause-each : goal.returns-clause-each
returns-clause-each g c =
    let one = works_ok _ _ _ _ _ _ _ _ c.in-Some-work_beside.ensures.first c.in_ok-ones.was in
    let two = works_ok _ _ _ _ _ _ _ _ c.in-Some-work_beside.ensures.second c.in_ok-twos.was in
    let none : taken_of c.split.new.take ≡ [] = c.in-Some.ensures.same.2 ∙ c.requires.take.2 in
    let a = one.taken ∙ ap (λ ns. ns ++ numbers_of c.in_ok-ones.ones.items) none in
    let b = two.taken ∙ ap (λ ns. ns ++ numbers_of c.in_ok-twos.twos.items) c.in-Some.ensures.new.2 in
    let n = ap length (one.same_all ∙ c.in-Some.ensures.same.1) in
    all_in_order _ c.in_ok-ones.ones.items c.in_ok-rest.rest.items c.in_ok-twos.twos.items _
    (taken_each _ _ _ _ (numbers_of c.in_ok-rest.rest.items) _ _ a b n c.in_ok-rest.ensures.each) c.in_ok-in_order.ensures.order c.in_ok-in_order.ensures.rises
