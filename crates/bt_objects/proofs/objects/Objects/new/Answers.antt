use Rattle.std.proofs.Common.{sym}
use Rattle.bt_objects.proofs.BoxLemmas.{charged_of-none}
use Rattle.bt_objects.proofs.objects.Objects.new.Goals as goal

pub invariant_of-result : goal.invariant_of-result
invariant_of-result g c = sym (charged_of-none c.new.result.entries c.new.ensures.empty)
