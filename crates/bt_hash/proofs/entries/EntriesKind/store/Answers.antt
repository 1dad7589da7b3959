use Rattle.std.proofs.Common.{Some, length, refl, sym, ap, ◌∙◌, arith}
use Rattle.bt_mapkind.specs.Atomic.{overwritten}
use Rattle.map_table.proofs.TableLemmas.{length-overwritten}
use Rattle.bt_hash.proofs.StepLemmas.{store_refused, held_written}
use Rattle.bt_hash.proofs.AddressLemmas.{written}
use Rattle.bt_hash.proofs.entries.EntriesKind.store.Goals as goal

pub returns-in-Err-clause-step : goal.returns-in-Err-clause-step
returns-in-Err-clause-step g c = (store_refused c.args.self.now.attr c.args.self.now.table.entries c.args.key.now c.args.offset _ c.args.bytes.now _ c.len.ensures c.in-Err.ensures.errno, refl)

pub invariant_of-self : goal.invariant_of-self
invariant_of-self g c = record {
  held = held_written c.args.self.now.attr _ _ c.args.key.now _ (λ v. overwritten v c.args.offset c.as_slice.result.now) _ c.args.self.now.held (c.in-Ok.ensures.found.1 ∙ ap Some (sym c.bytes.ensures)) c.write_in.ensures.before (λ v size. length-overwritten v c.args.offset _ c.as_slice.result.now size (omega (arith, c.in-Ok.ensures.found.0.range, ap length c.as_slice.ensures.value, c.len.ensures))) c.write_in.ensures.written;
  indexed = written g.A.Addressing.indexes c.args.self.now.index c.args.self.now.table _ _ c.args.self.now.indexed g.met.A.Addressing.stays (λ v. overwritten v c.args.offset c.as_slice.result.now) _ c.write_in.ensures.before c.write_in.ensures.written;
}
