use Rattle.std.proofs.Common.{None, is_some, ap, ◌∙◌}
use Rattle.bt_hash.proofs.StepLemmas.{held_exchanged}
use Rattle.bt_hash.proofs.AddressLemmas.{removed, without}
use Rattle.bt_hash.proofs.entries.EntriesKind.take.Goals as goal

pub remove-requires : goal.remove-requires
remove-requires g c = removed g.A.Addressing.indexes c.args.self.now.index c.args.self.now.table _ c.args.stored.now c.args.self.now.indexed (c.if-is_some.ensures ∙ ap is_some c.exchange-before.ensures.before) c.exchange-before.ensures.put

pub invariant_of-self : goal.invariant_of-self
invariant_of-self g c = record {
  held = held_exchanged c.args.self.now.attr c.args.self.now.table _ c.args.stored.now None c.args.self.now.held c.requires c.exchange-before.ensures.put;
  indexed = c.remove.ensures;
}

pub invariant_of-self-else-is_some : goal.invariant_of-self-else-is_some
invariant_of-self-else-is_some g c = record {
  held = held_exchanged c.args.self.now.attr c.args.self.now.table _ c.args.stored.now None c.args.self.now.held c.requires c.exchange-before.ensures.put;
  indexed = without g.A.Addressing.indexes c.args.self.now.index c.args.self.now.table _ c.args.stored.now c.args.self.now.indexed (c.if-is_some.ensures ∙ ap is_some c.exchange-before.ensures.before) c.exchange-before.ensures.put;
}
