use Rattle.host_state.specs.Hosts.{entries_in}
use Rattle.std.proofs.Common.{◌∙◌, ◌+◌, ◌*◌, is_some, sym, ap, subst, arith}
use Rattle.std.specs.FinMap as map
use Rattle.host_retirement.specs.Gathered.{count_at}
use Rattle.host_state.specs.Work.{CallsAtMost}
use Rattle.host_state.proofs.HostLemmas.{live_there}
use Rattle.bt_changes.proofs.AskLemmas.{calls_live}
use Rattle.host_state.proofs.CallLemmas.{within_one, within_both}
use Rattle.bt_changes.proofs.dump.dump_live.Goals as goal

pub returns-in_err-count-clause-work : goal.returns-in_err-count-clause-work
returns-in_err-count-clause-work g c =
    let l = live_there c.args.objects.now.by_id (entries_in c.args.entries.now) c.args.id c.requires (ap is_some (sym c.frozen_if_live.ensures) ∙ c.if-is_none.ensures) in
    let n = count_at (map.get c.args.objects.now.by_id c.args.id) in
    subst (λ most. CallsAtMost most c.args.objects.now.work c.count_elements.new.objects.work)
    (sym (calls_live c.args.objects.now.by_id (entries_in c.args.entries.now) c.args.id l))
    (within_one (2 * n + 1) c.args.objects.now.work c.count_elements.new.objects.work (omega arith) c.count_elements.ensures.work)

pub returns-in_err-list-clause-work : goal.returns-in_err-list-clause-work
returns-in_err-list-clause-work g c =
    let l = live_there c.args.objects.now.by_id (entries_in c.args.entries.now) c.args.id c.requires (ap is_some (sym c.frozen_if_live.ensures) ∙ c.if-is_none.ensures) in
    let n = c.in_ok-count.count in
    subst (λ most. CallsAtMost most c.args.objects.now.work c.elements.new.objects.work)
    (ap (λ n. 2 * n + 1) c.in_ok-count.ensures.count ∙ sym (calls_live c.args.objects.now.by_id (entries_in c.args.entries.now) c.args.id l))
    (within_both 1 (2 * n) (2 * n + 1) c.args.objects.now.work c.count_elements.new.objects.work c.elements.new.objects.work (omega arith)
    (within_one 1 c.args.objects.now.work c.count_elements.new.objects.work (omega arith) c.count_elements.ensures.work) c.elements.ensures.work)

pub returns-clause-work : goal.returns-clause-work
returns-clause-work g c =
    let l = live_there c.args.objects.now.by_id (entries_in c.args.entries.now) c.args.id c.requires (ap is_some (sym c.frozen_if_live.ensures) ∙ c.if-is_none.ensures) in
    let n = c.in_ok-count.count in
    subst (λ most. CallsAtMost most c.args.objects.now.work c.elements.new.objects.work)
    (ap (λ n. 2 * n + 1) c.in_ok-count.ensures.count ∙ sym (calls_live c.args.objects.now.by_id (entries_in c.args.entries.now) c.args.id l))
    (within_both 1 (2 * n) (2 * n + 1) c.args.objects.now.work c.count_elements.new.objects.work c.elements.new.objects.work (omega arith)
    (within_one 1 c.args.objects.now.work c.count_elements.new.objects.work (omega arith) c.count_elements.ensures.work) c.elements.ensures.work)
