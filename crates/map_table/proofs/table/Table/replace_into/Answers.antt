use Rattle.std.proofs.Common.{Some, None, length, refl, ap, arith}
use Rattle.map_table.proofs.FoundLemmas.{handed_rise, handed_index, handed_rows, is_there, absent, found_value_there, found_small, found_long, found_value, found_replaced}
use Rattle.map_table.proofs.table.Table.replace_into.Goals as goal

pub row_of-requires-clause-rises : goal.row_of-requires-clause-rises
row_of-requires-clause-rises c = handed_rise _ _ _ _ _ _ _ _ c.self.invariant c.self.view_is

pub row_of-requires-clause-indexed : goal.row_of-requires-clause-indexed
row_of-requires-clause-indexed c = handed_index _ _ _ _ _ _ _ _ c.self.invariant c.self.view_is

pub row_of-requires-clause-rows : goal.row_of-requires-clause-rows
row_of-requires-clause-rows c = handed_rows _ _ _ _ _ _ _ _ c.self.invariant c.self.view_is

pub returns-in_default-clause-there : goal.returns-in_default-clause-there
returns-in_default-clause-there c = is_there _ _ _ _ _ _ _ _ c.self.invariant c.self.view_is c.as_slice-key.result.now c.args.key.now c.as_slice-key.ensures.value None c.in_default.ensures

pub returns-in_default-clause-replaced : goal.returns-in_default-clause-replaced
returns-in_default-clause-replaced c = rw (absent _ _ _ _ _ _ _ _ c.self.invariant c.self.view_is c.as_slice-key.result.now c.args.key.now c.as_slice-key.ensures.value c.in_default.ensures) refl

pub returns-in_default-clause-kept : goal.returns-in_default-clause-kept
returns-in_default-clause-kept c = rw (absent _ _ _ _ _ _ _ _ c.self.invariant c.self.view_is c.as_slice-key.result.now c.args.key.now c.as_slice-key.ensures.value c.in_default.ensures) refl

pub row-requires : goal.row-requires
row-requires c = found_value_there _ _ _ _ _ _ _ _ c.self.invariant c.self.view_is c.as_slice-key.result.now c.args.key.now c.as_slice-key.ensures.value c.in-Some.row c.in-Some.ensures

pub fill_keyed-requires-clause-room : goal.fill_keyed-requires-clause-room
fill_keyed-requires-clause-room c = omega (arith, c.requires.room, ap length c.row.ensures, ap length c.as_slice-key.ensures.value, found_long _ _ _ _ _ _ _ _ c.self.invariant c.self.view_is c.as_slice-key.result.now c.args.key.now c.as_slice-key.ensures.value c.in-Some.row c.in-Some.ensures)

pub fill_keyed-requires-clause-value : goal.fill_keyed-requires-clause-value
fill_keyed-requires-clause-value c = omega (arith, ap length c.row.ensures, found_small _ _ _ _ _ _ _ _ c.self.invariant c.self.view_is c.as_slice-key.result.now c.args.key.now c.as_slice-key.ensures.value c.in-Some.row c.in-Some.ensures)

pub write-requires-clause-there : goal.write-requires-clause-there
write-requires-clause-there c = found_value_there _ _ _ _ _ _ _ _ c.self.invariant c.self.view_is c.as_slice-key.result.now c.args.key.now c.as_slice-key.ensures.value c.in-Some.row c.in-Some.ensures

pub write-requires-clause-within : goal.write-requires-clause-within
write-requires-clause-within c = omega (arith, c.requires.value_size, found_long _ _ _ _ _ _ _ _ c.self.invariant c.self.view_is c.as_slice-key.result.now c.args.key.now c.as_slice-key.ensures.value c.in-Some.row c.in-Some.ensures)

pub returns-clause-there : goal.returns-clause-there
returns-clause-there c = is_there _ _ _ _ _ _ _ _ c.self.invariant c.self.view_is c.as_slice-key.result.now c.args.key.now c.as_slice-key.ensures.value (Some c.in-Some.row) c.in-Some.ensures

pub returns-clause-kept : goal.returns-clause-kept
returns-clause-kept c = rw (found_value _ _ _ _ _ _ _ _ c.self.invariant c.self.view_is c.as_slice-key.result.now c.args.key.now c.as_slice-key.ensures.value c.in-Some.row c.in-Some.ensures, ← c.row.ensures, ← c.as_slice-key.ensures.value) c.fill_keyed.ensures

pub invariant_of-self : goal.invariant_of-self
invariant_of-self c =
    (found_replaced _ _ _ _ _ _ _ _ c.self.invariant c.self.view_is c.as_slice-key.result.now c.args.key.now c.as_slice-key.ensures.value c.in-Some.row c.in-Some.ensures c.args.value.now _ c.write.ensures c.requires.value_size).invariant

pub returns-clause-replaced : goal.returns-clause-replaced
returns-clause-replaced c =
    rw (found_value _ _ _ _ _ _ _ _ c.self.invariant c.self.view_is c.as_slice-key.result.now c.args.key.now c.as_slice-key.ensures.value c.in-Some.row c.in-Some.ensures)
    (found_replaced _ _ _ _ _ _ _ _ c.self.invariant c.self.view_is c.as_slice-key.result.now c.args.key.now c.as_slice-key.ensures.value c.in-Some.row c.in-Some.ensures c.args.value.now _ c.write.ensures c.requires.value_size).view
