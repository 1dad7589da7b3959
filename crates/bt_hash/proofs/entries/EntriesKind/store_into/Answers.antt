use Rattle.std.proofs.Common.{◌≡◌, Some, length, refl, sym, ap, subst, ◌∙◌, arith, MatchOption}
use Rattle.std.specs.FinMap as map
use Rattle.bt_mapkind.specs.Atomic.{overwritten}
use Rattle.map_table.proofs.TableLemmas.{length-overwritten, with_entries}
use Rattle.bt_hash.proofs.StepLemmas.{store_refused, held_written}
use Rattle.bt_hash.proofs.KeptLemmas.{room_for, stored}
use Rattle.bt_hash.proofs.AddressLemmas.{written}
use Rattle.bt_hash.proofs.entries.EntriesKind.store_into.Goals as goal

pub returns-in-Err-clause-step : goal.returns-in-Err-clause-step
returns-in-Err-clause-step g c = (store_refused c.args.self.now.attr c.args.self.now.table.entries c.args.key.now c.args.offset _ c.args.bytes.now _ c.len.ensures c.in-Err.ensures.errno, refl)

pub write_into-requires-clause-room : goal.write_into-requires-clause-room
write_into-requires-clause-room g c = room_for c.args.self.now.attr c.args.self.now.table c.args.key.now _ _ c.args.self.now.held c.in-Ok.ensures.found.0.key_size (c.in-Ok.ensures.found.1 ∙ ap Some (sym c.bytes.ensures)) c.requires

pub invariant_of-self : goal.invariant_of-self
invariant_of-self g c = record {
  held = held_written c.args.self.now.attr _ _ c.args.key.now _ (λ v. overwritten v c.args.offset c.as_slice.result.now) _ c.args.self.now.held (c.in-Ok.ensures.found.1 ∙ ap Some (sym c.bytes.ensures)) refl (λ v size. length-overwritten v c.args.offset _ c.as_slice.result.now size (omega (arith, c.in-Ok.ensures.found.0.range, ap length c.as_slice.ensures.value, c.len.ensures))) c.write_into.ensures.written;
  indexed = written g.A.Addressing.indexes c.args.self.now.index c.args.self.now.table _ _ c.args.self.now.indexed g.met.A.Addressing.stays (λ v. overwritten v c.args.offset c.as_slice.result.now) _ refl c.write_into.ensures.written;
}

pub returns-clause-step : goal.returns-clause-step
returns-clause-step g c =
    stored c.args.self.now.attr c.args.self.now.table _ c.args.key.now _ _ _ (c.in-Ok.ensures.found.1 ∙ ap Some (sym c.bytes.ensures)) c.if-not-write_into.ensures.there c.write_into.ensures.kept c.args.offset c.args.bytes.now
    (rw (← c.len.ensures) c.in-Ok.ensures.found.0)
    (subst (λ l. MatchOption (map.get c.args.self.now.table.entries c.bytes.result.now) (c.write_into.new.self ≡ c.args.self.now.table) (λ v. c.write_into.new.self ≡ with_entries c.args.self.now.table (map.insert c.args.self.now.table.entries c.bytes.result.now (overwritten v c.args.offset l)))) c.as_slice.ensures.value c.write_into.ensures.written)
