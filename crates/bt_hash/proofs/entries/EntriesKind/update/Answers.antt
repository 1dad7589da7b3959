use Rattle.std.proofs.Common.{Some, refl, sym, ap, ◌∙◌}
use Rattle.bt_hash.proofs.StepLemmas.{update_refused, update_fits}
use Rattle.map_table.proofs.TableLemmas.{put_fault_of}
use Rattle.bt_hash.proofs.AddressLemmas.{full_of}
use Rattle.bt_hash.proofs.entries.EntriesKind.update.Goals as goal

pub returns-in-Some-put_fault-clause-step : goal.returns-in-Some-put_fault-clause-step
returns-in-Some-put_fault-clause-step g c =
    (update_refused c.args.self.now.attr c.args.self.now.table.entries c.args.key.now _ c.args.value.now c.args.flag _ _ (full_of _ c.args.self.now.attr _ c.args.self.now.held.good.type c.full.ensures) c.if-flag-gt2.false (sym c.len.ensures ∙ c.if-len-self.false) (sym c.len-else-len-self.ensures ∙ c.if-len-self-2.false) (sym c.in-Some.ensures ∙ ap Some (sym c.bytes-stored.ensures)) (put_fault_of _ _ _ _ _ _ _ c.put_fault.ensures c.args.self.now.held.capacity ∙ c.in-Some-put_fault.is), refl)

pub put-before-requires : goal.put-before-requires
put-before-requires g c =
    update_fits c.args.self.now.attr c.args.self.now.table.entries c.args.key.now _ c.args.value.now _ c.args.flag _ (sym c.len.ensures ∙ c.if-len-self.false) (sym c.len-else-len-self.ensures ∙ c.if-len-self-2.false) c.as_slice.ensures.value (sym c.in-Some.ensures ∙ ap Some (sym c.bytes-stored.ensures)) (put_fault_of _ _ _ _ _ _ _ c.put_fault.ensures c.args.self.now.held.capacity ∙ c.in_default-put_fault.is)
