use Rattle.std.proofs.Common.{sym, ◌∙◌}
use Rattle.bt_queue.proofs.ItemsLemmas.{pops_newest}
use Rattle.bt_queue.proofs.HeldLemmas.{held_without_oldest}
use Rattle.bt_queue.proofs.ring_kind.RingKind.pop.Goals as goal

pub returns-then-is_stack-clause-step : goal.returns-then-is_stack-clause-step
returns-then-is_stack-clause-step c =
    pops_newest c.args.self.now.attr _ _ _ _ _ (sym c.is_stack.ensures ∙ c.if-is_stack.true) c.pop_rear-newest.ensures c.copy.ensures c.popped.ensures

pub invariant_of-self-2 : goal.invariant_of-self-2
invariant_of-self-2 c = record { held = held_without_oldest _ _ _ _ c.args.self.now.held c.pop_front-oldest.ensures }
