use Rattle.std.proofs.Common.{sym, ◌∙◌}
use Rattle.bt_objects.proofs.BoxLemmas.{operate_charge}
use Rattle.bt_objects.proofs.objects.Objects.operate_at.Goals as goal

pub invariant_of-self : goal.invariant_of-self
invariant_of-self g c = c.self.invariant ∙ sym (operate_charge _ _ _ _ _ c.operate_in.ensures)
