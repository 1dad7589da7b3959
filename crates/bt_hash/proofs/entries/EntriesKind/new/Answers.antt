use Rattle.std.proofs.Common.{rules, subst, sym}
use Rattle.bt_hash.proofs.StepLemmas.{held_new}
use Rattle.bt_hash.proofs.entries.EntriesKind.new.Goals as goal

pub invariant_of-result : goal.invariant_of-result
invariant_of-result g c = record {
  held = held_new c.args.attr _ c.map_type.ensures.of_entries (search rules) c.in-Ok.ensures;
  indexed = subst (λ t. ∥ g.A.Addressing.indexes c.in-Ok-new.index t ∥₁) (sym c.in-Ok.ensures) c.in-Ok-new.ensures;
}
