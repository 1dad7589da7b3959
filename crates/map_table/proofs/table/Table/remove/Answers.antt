use Rattle.std.proofs.Common.{arith, ap, sym, ◌∙◌, Some}
use Rattle.map_table.proofs.MapLemmas.{length-keys, get_place, get_gap, remove_gap}
use Rattle.map_table.proofs.TableLemmas.{with_entries}
use Rattle.map_table.proofs.table.Table.remove.Goals as goal

pub value_at-before-requires : goal.value_at-before-requires
value_at-before-requires c = omega (arith, c.in-Ok.ensures.found.within, length-keys c.args.self.now.entries)

pub take-requires : goal.take-requires
take-requires c = omega (arith, c.in-Ok.ensures.found.within, length-keys c.args.self.now.entries)

pub returns-in-Ok-clause-removed : goal.returns-in-Ok-clause-removed
returns-in-Ok-clause-removed c = rw c.in-Ok.ensures.found.is at c.take.ensures

pub returns-in-Ok-clause-before : goal.returns-in-Ok-clause-before
returns-in-Ok-clause-before c = ap Some c.value_at-before.ensures ∙ sym (get_place _ _ _ c.in-Ok.ensures.found)

pub returns-in-Err-clause-removed : goal.returns-in-Err-clause-removed
returns-in-Err-clause-removed c = ap (with_entries c.args.self.now) (sym (remove_gap c.args.self.now.entries c.args.key.now (get_gap _ _ _ c.in-Err.ensures.absent)))

pub returns-in-Err-clause-before : goal.returns-in-Err-clause-before
returns-in-Err-clause-before c = sym (get_gap _ _ _ c.in-Err.ensures.absent)
