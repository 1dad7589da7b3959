use Rattle.std.proofs.Common.{◌∙◌, ◌+◌, ◌*◌, sym, ap, arith}
use Rattle.std.proofs.lemmas.Bool.Decides.{nat_tests}
use Rattle.std.specs.FinMap as map
use Rattle.bt_mapkind.specs.Seen.{Seen}
use Rattle.bt_objects.specs.Boxes.{ById}
use Rattle.bt_changes.proofs.ShownLemmas.{shown_at}
use Rattle.host_state.proofs.CallLemmas.{within_both}
use Rattle.host_retirement.proofs.GatherLemmas.{kept_more, kept_same}
use Rattle.bt_changes.proofs.dump.elements.Goals.{in-Some+in_ok-push, in_default}
use Rattle.bt_changes.proofs.dump.elements.Goals as goal

pub returns-in_err-shown-clause-work : goal.returns-in_err-shown-clause-work
returns-in_err-shown-clause-work g c =
    within_both (2 * c.loop-number.number) 2 (2 * c.args.count) c.args.objects.now.work c.loop-number.objects.work c.shown_at.new.objects.work
    (omega (arith, nat_tests, c.loop-number-test.true)) c.loop-number.invariant.3 c.shown_at.ensures.work

pub returns-in_err-push-clause-work : goal.returns-in_err-push-clause-work
returns-in_err-push-clause-work g c =
    within_both (2 * c.loop-number.number) 2 (2 * c.args.count) c.args.objects.now.work c.loop-number.objects.work c.shown_at.new.objects.work
    (omega (arith, nat_tests, c.loop-number-test.true)) c.loop-number.invariant.3 c.shown_at.ensures.work

pub loop-number-preserved : goal.loop-number-preserved
loop-number-preserved g c =
    let n = c.loop-number.number in
    let box = map.get c.args.objects.now.by_id c.args.id in
    let told = c.in_ok-shown.ensures.shown ∙ ap (λ (b : ById Seen). shown_at (map.get b c.args.id) n) c.loop-number.invariant.2 in (
      omega (arith, nat_tests, c.loop-number-test.true),
      elim c.match-branch-2.branch [
        | in-Some+in_ok-push w ↦ kept_more (shown_at box) n w.in-Some.shown c.loop-number.list.items _ (sym w.in-Some.is ∙ told) c.loop-number.invariant.1 ((λ i. (w.list-is i).items) ∙ w.in_ok-push.ensures.items)
        | in_default w ↦ kept_same (shown_at box) n c.loop-number.list.items _ (sym w.in_default.is ∙ told) c.loop-number.invariant.1 (λ i. (w.list-is i).items)
      ],
      c.shown_at.ensures.same ∙ c.loop-number.invariant.2,
      within_both (2 * n) 2 (2 * (n + 1)) c.args.objects.now.work c.loop-number.objects.work c.shown_at.new.objects.work (omega arith) c.loop-number.invariant.3 c.shown_at.ensures.work,
    )
