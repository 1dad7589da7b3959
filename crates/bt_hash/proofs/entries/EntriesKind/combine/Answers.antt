use Rattle.std.proofs.Common.{Some, refl, sym, ap, ◌∙◌, arith}
use Rattle.bt_mapkind.specs.Atomic.{overwritten, part_of, size_in_bytes, bytes_after}
use Rattle.map_table.proofs.TableLemmas.{length-overwritten, length-bytes_of}
use Rattle.bt_hash.proofs.StepLemmas.{combine_refused, held_written}
use Rattle.bt_hash.proofs.AddressLemmas.{written}
use Rattle.bt_hash.proofs.entries.EntriesKind.combine.Goals as goal

pub returns-in-Err-clause-step : goal.returns-in-Err-clause-step
returns-in-Err-clause-step g c = (combine_refused c.args.self.now.attr c.args.self.now.table.entries c.args.key.now c.args.offset _ c.args.size c.args.op c.args.operand _ c.in_bytes.ensures c.in-Err.ensures.errno, refl)

pub invariant_of-self : goal.invariant_of-self
invariant_of-self g c = record {
  held = held_written c.args.self.now.attr _ _ c.args.key.now _ (λ v. overwritten v c.args.offset (bytes_after c.args.op c.args.size c.args.operand (part_of v c.args.offset (size_in_bytes c.args.size)))) _ c.args.self.now.held (c.in-Ok.ensures.found.1 ∙ ap Some (sym c.bytes.ensures)) c.combine_in.ensures.before (λ v size. length-overwritten v c.args.offset _ _ size (rw (length-bytes_of c.args.size _, ← c.in_bytes.ensures) c.in-Ok.ensures.found.0.range)) c.combine_in.ensures.combined;
  indexed = written g.A.Addressing.indexes c.args.self.now.index c.args.self.now.table _ _ c.args.self.now.indexed g.met.A.Addressing.stays (λ v. overwritten v c.args.offset (bytes_after c.args.op c.args.size c.args.operand (part_of v c.args.offset (size_in_bytes c.args.size)))) _ c.combine_in.ensures.before c.combine_in.ensures.combined;
}

pub part-requires : goal.part-requires
part-requires g c =
    omega (arith, (c.args.self.now.held.well.sizes.1 _ c.in-Some.before (sym c.in-Some.ensures.before)).value_size, c.in-Ok.ensures.found.0.range, c.in_bytes.ensures, c.in_bytes-in-Some.ensures)
