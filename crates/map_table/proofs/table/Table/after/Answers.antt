use Rattle.std.proofs.Common.{arith, sym, ◌∙◌, add-one}
use Rattle.map_table.proofs.MapLemmas.{length-keys, after_place, after_gap}
use Rattle.map_table.proofs.table.Table.after.Goals as goal

pub overflow_add-place : goal.overflow_add-place
overflow_add-place c = omega (arith, c.in-Ok.ensures.found.within, length-keys c.args.self.now.entries, c.in-Ok.ensures.few)

pub returns-in-Ok : goal.returns-in-Ok
returns-in-Ok c = rw add-one at c.nth_key.ensures ∙ sym (after_place _ _ _ c.in-Ok.ensures.found)

pub returns-in-Err : goal.returns-in-Err
returns-in-Err c = c.nth_key-in-Err.ensures ∙ sym (after_gap _ _ _ c.in-Err.ensures.absent)
