use Rattle.std.proofs.Common.{arith, Some, sym, ap, ◌∙◌}
use Rattle.map_table.proofs.FoundLemmas.{handed_rise, handed_index, handed_rows, absent, found_value_there, found_small, found_long, found_value, found_replaced}
use Rattle.map_table.proofs.table.Table.set.Goals as goal

pub row_of-requires-clause-rises : goal.row_of-requires-clause-rises
row_of-requires-clause-rises c = handed_rise _ _ _ _ _ _ _ _ c.self.invariant c.self.view_is

pub row_of-requires-clause-indexed : goal.row_of-requires-clause-indexed
row_of-requires-clause-indexed c = handed_index _ _ _ _ _ _ _ _ c.self.invariant c.self.view_is

pub row_of-requires-clause-rows : goal.row_of-requires-clause-rows
row_of-requires-clause-rows c = handed_rows _ _ _ _ _ _ _ _ c.self.invariant c.self.view_is

pub put-requires-clause-absent : goal.put-requires-clause-absent
put-requires-clause-absent c = absent _ _ _ _ _ _ _ _ c.self.invariant c.self.view_is c.as_slice-bytes.result.now c.args.key.now c.as_slice-bytes.ensures.value c.in_default.ensures

pub put-requires-clause-room : goal.put-requires-clause-room
put-requires-clause-room c = c.requires.room (absent _ _ _ _ _ _ _ _ c.self.invariant c.self.view_is c.as_slice-bytes.result.now c.args.key.now c.as_slice-bytes.ensures.value c.in_default.ensures)

pub copy_of-before-requires-clause-there : goal.copy_of-before-requires-clause-there
copy_of-before-requires-clause-there c = found_value_there _ _ _ _ _ _ _ _ c.self.invariant c.self.view_is c.as_slice-bytes.result.now c.args.key.now c.as_slice-bytes.ensures.value c.in-Some.row c.in-Some.ensures

pub copy_of-before-requires-clause-small : goal.copy_of-before-requires-clause-small
copy_of-before-requires-clause-small c = found_small _ _ _ _ _ _ _ _ c.self.invariant c.self.view_is c.as_slice-bytes.result.now c.args.key.now c.as_slice-bytes.ensures.value c.in-Some.row c.in-Some.ensures

pub write-requires-clause-there : goal.write-requires-clause-there
write-requires-clause-there c = found_value_there _ _ _ _ _ _ _ _ c.self.invariant c.self.view_is c.as_slice-bytes.result.now c.args.key.now c.as_slice-bytes.ensures.value c.in-Some.row c.in-Some.ensures

pub write-requires-clause-within : goal.write-requires-clause-within
write-requires-clause-within c = omega (arith, c.requires.value_size, found_long _ _ _ _ _ _ _ _ c.self.invariant c.self.view_is c.as_slice-bytes.result.now c.args.key.now c.as_slice-bytes.ensures.value c.in-Some.row c.in-Some.ensures)

pub invariant_of-self : goal.invariant_of-self
invariant_of-self c =
    (found_replaced _ _ _ _ _ _ _ _ c.self.invariant c.self.view_is c.as_slice-bytes.result.now c.args.key.now c.as_slice-bytes.ensures.value c.in-Some.row c.in-Some.ensures c.args.value.now _ c.write.ensures c.requires.value_size).invariant

pub returns-in_default-clause-before : goal.returns-in_default-clause-before
returns-in_default-clause-before c = sym (absent _ _ _ _ _ _ _ _ c.self.invariant c.self.view_is c.as_slice-bytes.result.now c.args.key.now c.as_slice-bytes.ensures.value c.in_default.ensures)

pub returns-clause-put : goal.returns-clause-put
returns-clause-put c = (found_replaced _ _ _ _ _ _ _ _ c.self.invariant c.self.view_is c.as_slice-bytes.result.now c.args.key.now c.as_slice-bytes.ensures.value c.in-Some.row c.in-Some.ensures c.args.value.now _ c.write.ensures c.requires.value_size).view

pub returns-clause-before : goal.returns-clause-before
returns-clause-before c = ap Some c.copy_of-before.ensures ∙ sym (found_value _ _ _ _ _ _ _ _ c.self.invariant c.self.view_is c.as_slice-bytes.result.now c.args.key.now c.as_slice-bytes.ensures.value c.in-Some.row c.in-Some.ensures)
