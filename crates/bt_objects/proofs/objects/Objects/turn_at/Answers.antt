use Rattle.std.proofs.Common.{sym, ◌∙◌}
use Rattle.bt_objects.proofs.BoxLemmas.{turn_charge}
use Rattle.bt_objects.proofs.objects.Objects.turn_at.Goals as goal

pub invariant_of-self : goal.invariant_of-self
invariant_of-self g c = c.self.invariant ∙ sym (turn_charge _ _ _ _ _ _ c.turn_in.ensures)
