use Rattle.std.proofs.Common.{Some, is_some, sym, ap, ◌∙◌}
use Rattle.bt_hash.proofs.StepLemmas.{held_exchanged}
use Rattle.bt_hash.proofs.AddressLemmas.{room_for_new, added, put_over}
use Rattle.bt_hash.proofs.entries.EntriesKind.put.Goals as goal

pub set-before-requires-clause-room : goal.set-before-requires-clause-room
set-before-requires-clause-room g c = room_for_new c.args.self.now.attr c.args.self.now.table c.args.stored.now c.args.value.now c.args.self.now.held c.requires

pub insert-requires : goal.insert-requires
insert-requires g c = added g.A.Addressing.indexes c.args.self.now.index c.args.self.now.table _ c.args.stored.now c.args.self.now.indexed c.args.self.now.attr c.args.value.now c.args.self.now.held c.requires (sym c.if-is_none.ensures ∙ ap is_some c.set-before.ensures.before) c.set-before.ensures.put

pub invariant_of-self : goal.invariant_of-self
invariant_of-self g c = record {
  held = held_exchanged c.args.self.now.attr c.args.self.now.table _ c.args.stored.now (Some c.args.value.now) c.args.self.now.held c.requires c.set-before.ensures.put;
  indexed = c.insert.ensures;
}

pub invariant_of-self-else-is_none : goal.invariant_of-self-else-is_none
invariant_of-self-else-is_none g c = record {
  held = held_exchanged c.args.self.now.attr c.args.self.now.table _ c.args.stored.now (Some c.args.value.now) c.args.self.now.held c.requires c.set-before.ensures.put;
  indexed = put_over g.A.Addressing.indexes c.args.self.now.index c.args.self.now.table _ c.args.stored.now c.args.self.now.indexed g.met.A.Addressing.stays c.args.value.now (sym c.if-is_none.ensures ∙ ap is_some c.set-before.ensures.before) c.set-before.ensures.put;
}
