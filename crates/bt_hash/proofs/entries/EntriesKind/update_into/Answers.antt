use Rattle.std.proofs.Common.{Some, sym, ap, ◌∙◌}
use Rattle.bt_mapkind.specs.Contents.{Entries}
use Rattle.bt_mapkind.proofs.Prefixes.{address_stands}
use Rattle.map_table.specs.Table.{Kept}
use Rattle.map_table.proofs.TableLemmas.{put_fault_of}
use Rattle.bt_hash.proofs.StepLemmas.{held_exchanged, update_fits, update_refused}
use Rattle.bt_hash.proofs.KeptLemmas.{missing_of, there_of}
use Rattle.bt_hash.proofs.AddressLemmas.{full_of, added, put_over}
use Rattle.bt_hash.proofs.entries.EntriesKind.update_into.Goals as goal

pub put_into-requires-clause-key_size : goal.put_into-requires-clause-key_size
put_into-requires-clause-key_size g c = (address_stands c.args.self.now.attr c.args.key.now c.bytes-stored.result.now (sym c.in-Some.ensures ∙ ap Some (sym c.bytes-stored.ensures))).key_size ∙ (sym c.len.ensures ∙ c.if-len-self.false) ∙ sym c.args.self.now.held.key_size

pub insert-requires : goal.insert-requires
insert-requires g c =
    added g.A.Addressing.indexes c.args.self.now.index c.args.self.now.table _ _ c.args.self.now.indexed c.args.self.now.attr _ c.args.self.now.held (update_fits c.args.self.now.attr c.args.self.now.table.entries c.args.key.now _ c.args.value.now _ c.args.flag _ (sym c.len.ensures ∙ c.if-len-self.false) (sym c.len-else-len-self.ensures ∙ c.if-len-self-2.false) c.as_slice-value.ensures.value (sym c.in-Some.ensures ∙ ap Some (sym c.bytes-stored.ensures)) (put_fault_of _ _ _ _ _ _ _ (sym c.in-Ok-true.ensures.free) c.args.self.now.held.capacity)) (missing_of _ _ c.in-Ok-true.ensures.fresh c.in-Ok-true.field-0-test) c.in-Ok-true.ensures.put

pub invariant_of-self : goal.invariant_of-self
invariant_of-self g c = record {
  held = held_exchanged c.args.self.now.attr c.args.self.now.table _ _ (Some c.as_slice-value.result.now) c.args.self.now.held (update_fits c.args.self.now.attr c.args.self.now.table.entries c.args.key.now _ c.args.value.now _ c.args.flag _ (sym c.len.ensures ∙ c.if-len-self.false) (sym c.len-else-len-self.ensures ∙ c.if-len-self-2.false) c.as_slice-value.ensures.value (sym c.in-Some.ensures ∙ ap Some (sym c.bytes-stored.ensures)) (put_fault_of _ _ _ _ _ _ _ (sym c.in-Ok-true.ensures.free) c.args.self.now.held.capacity)) c.in-Ok-true.ensures.put;
  indexed = c.insert.ensures;
}

pub invariant_of-self-in-Ok-false : goal.invariant_of-self-in-Ok-false
invariant_of-self-in-Ok-false g c = record {
  held = held_exchanged c.args.self.now.attr c.args.self.now.table _ _ (Some c.as_slice-value.result.now) c.args.self.now.held (update_fits c.args.self.now.attr c.args.self.now.table.entries c.args.key.now _ c.args.value.now _ c.args.flag _ (sym c.len.ensures ∙ c.if-len-self.false) (sym c.len-else-len-self.ensures ∙ c.if-len-self-2.false) c.as_slice-value.ensures.value (sym c.in-Some.ensures ∙ ap Some (sym c.bytes-stored.ensures)) (put_fault_of _ _ _ _ _ _ _ (sym c.in-Ok-false.ensures.free) c.args.self.now.held.capacity)) c.in-Ok-false.ensures.put;
  indexed = put_over g.A.Addressing.indexes c.args.self.now.index c.args.self.now.table _ _ c.args.self.now.indexed g.met.A.Addressing.stays _ (there_of _ _ c.in-Ok-false.ensures.fresh c.in-Ok-false.field-0-test) c.in-Ok-false.ensures.put;
}

pub returns-clause-step : goal.returns-clause-step
returns-clause-step g c =
    (update_refused c.args.self.now.attr c.args.self.now.table.entries c.args.key.now _ c.args.value.now c.args.flag _ _ (full_of _ c.args.self.now.attr _ c.args.self.now.held.good.type c.full.ensures) c.if-flag-gt2.false (sym c.len.ensures ∙ c.if-len-self.false) (sym c.len-else-len-self.ensures ∙ c.if-len-self-2.false) (sym c.in-Some.ensures ∙ ap Some (sym c.bytes-stored.ensures)) (put_fault_of _ _ _ _ _ _ _ (sym c.in-Err.ensures.errno) c.args.self.now.held.capacity), ap (λ (k : Kept). Entries k.entries) c.in-Err.ensures.same)
