use Rattle.std.proofs.Common.{sym, ap, ◌∙◌}
use Rattle.bt_roots.proofs.SlotLemmas.{get-pins_of, held}
use Rattle.bt_roots.proofs.slots.pinned_at.Goals as goal

pub returns-in-Some : goal.returns-in-Some
returns-in-Some c = ap held c.in-Some.ensures.value ∙ sym (get-pins_of c.args.slots.now.entries c.args.path.now)

pub returns-in-None : goal.returns-in-None
returns-in-None c = ap held c.in-None.ensures.value ∙ sym (get-pins_of c.args.slots.now.entries c.args.path.now)
