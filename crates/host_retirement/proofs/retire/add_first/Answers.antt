use Rattle.std.proofs.Common.{◌+◌, ◌*◌, sym, ap, ◌∙◌, arith}
use Rattle.std.proofs.lemmas.Bool.Decides.{nat_tests}
use Rattle.std.specs.FinMap as map
use Rattle.bt_mapkind.specs.Seen.{Seen}
use Rattle.bt_objects.specs.Boxes.{ById}
use Rattle.bt_roots.specs.declared.target.Target.TheVariants.{Map}
use Rattle.host_retirement.specs.Gathered.{id_at}
use Rattle.host_state.proofs.CallLemmas.{within_both}
use Rattle.host_retirement.proofs.GatherLemmas.{some_pushed, none_pushed}
use Rattle.host_retirement.proofs.retire.add_first.Goals.{in-Some+in_ok-push, in_default}
use Rattle.host_retirement.proofs.retire.add_first.Goals as goal

pub returns-in_err-named-clause-work : goal.returns-in_err-named-clause-work
returns-in_err-named-clause-work g c = within_both (2 * c.loop-number.number) 2 (2 * c.args.count) c.args.objects.now.work c.loop-number.objects.work c.id_at.new.objects.work (omega (arith, nat_tests, c.loop-number-test.true)) c.loop-number.invariant.1 c.id_at.ensures.work

pub returns-in_err-push-clause-work : goal.returns-in_err-push-clause-work
returns-in_err-push-clause-work g c = within_both (2 * c.loop-number.number) 2 (2 * c.args.count) c.args.objects.now.work c.loop-number.objects.work c.id_at.new.objects.work (omega (arith, nat_tests, c.loop-number-test.true)) c.loop-number.invariant.1 c.id_at.ensures.work

pub loop-number-preserved : goal.loop-number-preserved
loop-number-preserved g c =
    let n = c.loop-number.number in
    let box = map.get c.args.objects.now.by_id c.args.id in
    let found = c.in_ok-named.ensures.found ∙ ap (λ (b : ById Seen). id_at (map.get b c.args.id) n) c.loop-number.invariant.2 in (
      omega (arith, nat_tests, c.loop-number-test.true),
      within_both (2 * n) 2 (2 * (n + 1)) c.args.objects.now.work c.loop-number.objects.work c.id_at.new.objects.work (omega arith) c.loop-number.invariant.1 c.id_at.ensures.work,
      c.id_at.ensures.same ∙ c.loop-number.invariant.2,
      elim c.match-branch-2.branch [
        | in-Some+in_ok-push w ↦ some_pushed c.args.id c.args.kind box n w.in-Some.named _ c.args.links.now.items c.loop-number.links.items _
            (sym found ∙ w.in-Some.is) (ap (λ t. (Map c.args.id, t)) w.named_in.ensures) c.loop-number.invariant.3 ((λ i. (w.links-is i).items) ∙ w.in_ok-push.ensures.items)
        | in_default w ↦ none_pushed c.args.id c.args.kind box n c.args.links.now.items c.loop-number.links.items _ (sym found ∙ w.in_default.is) c.loop-number.invariant.3 (λ i. (w.links-is i).items)
      ],
    )
