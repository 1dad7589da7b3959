use Rattle.std.proofs.Common.{arith}
use Rattle.host_state.proofs.CallLemmas.{within_one, within_both}
use Rattle.host_retirement.proofs.retire.id_at.Goals as goal

pub returns-in-Key-clause-work : goal.returns-in-Key-clause-work
returns-in-Key-clause-work g c =
    within_both 1 1 2 c.args.objects.now.work c.element.new.objects.work c.id_under.new.objects.work (omega arith)
    (within_one 1 c.args.objects.now.work c.element.new.objects.work (omega arith) c.element.ensures.work)
    (within_one 1 c.element.new.objects.work c.id_under.new.objects.work (omega arith) c.id_under.ensures.work)
