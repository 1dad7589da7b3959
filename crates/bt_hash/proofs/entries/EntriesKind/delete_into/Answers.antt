use Rattle.std.proofs.Common.{Some, None, sym, ap, ◌∙◌}
use Rattle.map_table.specs.Table.{Kept}
use Rattle.bt_hash.proofs.StepLemmas.{held_exchanged, key_fits_at, delete_refused}
use Rattle.map_table.proofs.KeptLemmas.{none_there}
use Rattle.bt_hash.proofs.KeptLemmas.{room_for}
use Rattle.bt_hash.proofs.AddressLemmas.{removed, without}
use Rattle.bt_hash.proofs.entries.EntriesKind.delete_into.Goals as goal

pub remove_into-requires : goal.remove_into-requires
remove_into-requires g c = room_for c.args.self.now.attr c.args.self.now.table c.args.key.now _ _ c.args.self.now.held (sym c.len.ensures ∙ c.if-len-self.false) (sym c.in-Some.ensures ∙ ap Some (sym c.bytes-stored.ensures)) c.requires

pub invariant_of-self : goal.invariant_of-self
invariant_of-self g c = record {
  held = held_exchanged c.args.self.now.attr c.args.self.now.table _ _ None c.args.self.now.held (key_fits_at c.args.self.now.attr c.args.key.now _ (sym c.len.ensures ∙ c.if-len-self.false) (sym c.in-Some.ensures ∙ ap Some (sym c.bytes-stored.ensures))) c.remove_into.ensures.removed;
  indexed = without g.A.Addressing.indexes c.args.self.now.index c.args.self.now.table _ _ c.args.self.now.indexed c.if-not-remove_into.ensures.there c.remove_into.ensures.removed;
}

pub returns-then-not-remove_into-clause-step : goal.returns-then-not-remove_into-clause-step
returns-then-not-remove_into-clause-step g c =
    delete_refused c.args.self.now.attr c.args.self.now.table.entries _ c.args.key.now _ (sym c.len.ensures ∙ c.if-len-self.false) (sym c.in-Some.ensures ∙ ap Some (sym c.bytes-stored.ensures)) (none_there _ _ c.if-not-remove_into.ensures.there) (ap (λ (k : Kept). k.entries) c.remove_into.ensures.removed)

pub remove-requires : goal.remove-requires
remove-requires g c = removed g.A.Addressing.indexes c.args.self.now.index c.args.self.now.table _ _ c.args.self.now.indexed c.if-not-remove_into.ensures.there c.remove_into.ensures.removed

pub invariant_of-self-2 : goal.invariant_of-self-2
invariant_of-self-2 g c = record {
  held = held_exchanged c.args.self.now.attr c.args.self.now.table _ _ None c.args.self.now.held (key_fits_at c.args.self.now.attr c.args.key.now _ (sym c.len.ensures ∙ c.if-len-self.false) (sym c.in-Some.ensures ∙ ap Some (sym c.bytes-stored.ensures))) c.remove_into.ensures.removed;
  indexed = c.remove.ensures;
}
