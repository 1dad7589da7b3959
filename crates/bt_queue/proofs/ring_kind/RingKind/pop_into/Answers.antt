use Rattle.std.proofs.Common.{◌≡◌, None, Some, false, ap, sym, ◌∙◌}
use Rattle.bt_mapkind.specs.declared.exchange.Back.{Back}
use Rattle.bt_mapkind.specs.Kept.{Kept}
use Rattle.bt_mapkind.specs.Reply.{taken_in}
use Rattle.bt_queue.proofs.ItemsLemmas.{pops_newest}
use Rattle.bt_queue.proofs.HeldLemmas.{held_without_oldest}
use Rattle.bt_queue.proofs.ring_kind.RingKind.pop_into.Goals as goal

pub returns-then-is_stack-clause-step : goal.returns-then-is_stack-clause-step
returns-then-is_stack-clause-step c =
    let back : c.fill.new.self.back ≡ Back.Ends false false None (Some c.pop_rear-newest.result) = ap (λ (k : Kept). k.back) c.fill.ensures ∙ c.popped.ensures in
    pops_newest c.args.self.now.attr _ _ c.pop_rear-newest.result _ _ (sym c.is_stack.ensures ∙ c.if-is_stack.true) c.pop_rear-newest.ensures (ap taken_in back) back

pub invariant_of-self-2 : goal.invariant_of-self-2
invariant_of-self-2 c = record { held = held_without_oldest _ _ _ _ c.args.self.now.held c.pop_front-oldest.ensures }
