use Rattle.std.proofs.Common.{arith, ap, sym, is_some, refl}
use Rattle.map_table.proofs.MapLemmas.{length-keys, get_place, get_gap, remove_gap}
use Rattle.map_table.proofs.TableLemmas.{with_entries}
use Rattle.map_table.proofs.table.Table.remove_into.Goals as goal

pub value_row-requires : goal.value_row-requires
value_row-requires c = omega (arith, c.in-Ok.ensures.found.within, length-keys c.args.self.now.entries)

pub take-requires : goal.take-requires
take-requires c = omega (arith, c.in-Ok.ensures.found.within, length-keys c.args.self.now.entries)

pub returns-in-Ok-clause-there : goal.returns-in-Ok-clause-there
returns-in-Ok-clause-there c = sym (ap is_some (get_place _ _ _ c.in-Ok.ensures.found))

pub returns-in-Ok-clause-removed : goal.returns-in-Ok-clause-removed
returns-in-Ok-clause-removed c = rw c.in-Ok.ensures.found.is at c.take.ensures

pub returns-in-Ok-clause-kept : goal.returns-in-Ok-clause-kept
returns-in-Ok-clause-kept c = rw (get_place _ _ _ c.in-Ok.ensures.found, ← c.value_row.ensures.value, ← c.as_slice.ensures.value) c.fill_keyed.ensures

pub returns-in-Err-clause-there : goal.returns-in-Err-clause-there
returns-in-Err-clause-there c = sym (ap is_some (get_gap _ _ _ c.in-Err.ensures.absent))

pub returns-in-Err-clause-removed : goal.returns-in-Err-clause-removed
returns-in-Err-clause-removed c = ap (with_entries c.args.self.now) (sym (remove_gap c.args.self.now.entries c.args.key.now (get_gap _ _ _ c.in-Err.ensures.absent)))

pub returns-in-Err-clause-kept : goal.returns-in-Err-clause-kept
returns-in-Err-clause-kept c = rw (get_gap _ _ _ c.in-Err.ensures.absent) refl
