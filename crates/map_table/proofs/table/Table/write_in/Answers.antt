use Rattle.std.proofs.Common.{Some, [], get_or, sym, ap, ◌∙◌}
use Rattle.bt_mapkind.specs.Atomic.{overwritten}
use Rattle.map_table.proofs.FoundLemmas.{handed_rise, handed_index, handed_rows, absent, found_value_there, found_small, found_long, found_value, found_written}
use Rattle.map_table.proofs.TableLemmas.{length-overwritten}
use Rattle.map_table.proofs.table.Table.write_in.Goals as goal

pub row_of-requires-clause-rises : goal.row_of-requires-clause-rises
row_of-requires-clause-rises c = handed_rise _ _ _ _ _ _ _ _ c.self.invariant c.self.view_is

pub row_of-requires-clause-indexed : goal.row_of-requires-clause-indexed
row_of-requires-clause-indexed c = handed_index _ _ _ _ _ _ _ _ c.self.invariant c.self.view_is

pub row_of-requires-clause-rows : goal.row_of-requires-clause-rows
row_of-requires-clause-rows c = handed_rows _ _ _ _ _ _ _ _ c.self.invariant c.self.view_is

pub copy_of-before-requires-clause-there : goal.copy_of-before-requires-clause-there
copy_of-before-requires-clause-there c = found_value_there _ _ _ _ _ _ _ _ c.self.invariant c.self.view_is c.as_slice-key.result.now c.args.key.now c.as_slice-key.ensures.value c.in-Some.row c.in-Some.ensures

pub copy_of-before-requires-clause-small : goal.copy_of-before-requires-clause-small
copy_of-before-requires-clause-small c = found_small _ _ _ _ _ _ _ _ c.self.invariant c.self.view_is c.as_slice-key.result.now c.args.key.now c.as_slice-key.ensures.value c.in-Some.row c.in-Some.ensures

pub write-requires-clause-there : goal.write-requires-clause-there
write-requires-clause-there c = found_value_there _ _ _ _ _ _ _ _ c.self.invariant c.self.view_is c.as_slice-key.result.now c.args.key.now c.as_slice-key.ensures.value c.in-Some.row c.in-Some.ensures

pub write-requires-clause-within : goal.write-requires-clause-within
write-requires-clause-within c = rw (found_long _ _ _ _ _ _ _ _ c.self.invariant c.self.view_is c.as_slice-key.result.now c.args.key.now c.as_slice-key.ensures.value c.in-Some.row c.in-Some.ensures) c.requires

pub invariant_of-self : goal.invariant_of-self
invariant_of-self c =
    (found_written _ _ _ _ _ _ _ _ c.self.invariant c.self.view_is c.as_slice-key.result.now c.args.key.now c.as_slice-key.ensures.value c.in-Some.row c.in-Some.ensures (overwritten (get_or c.self.inside.values c.in-Some.row []) c.args.offset c.args.bytes.now) _ c.write.ensures
    (length-overwritten _ c.args.offset _ c.args.bytes.now (found_long _ _ _ _ _ _ _ _ c.self.invariant c.self.view_is c.as_slice-key.result.now c.args.key.now c.as_slice-key.ensures.value c.in-Some.row c.in-Some.ensures) c.requires)).invariant

pub returns-in_default-clause-before : goal.returns-in_default-clause-before
returns-in_default-clause-before c = sym (absent _ _ _ _ _ _ _ _ c.self.invariant c.self.view_is c.as_slice-key.result.now c.args.key.now c.as_slice-key.ensures.value c.in_default.ensures)

pub returns-clause-before : goal.returns-clause-before
returns-clause-before c = ap Some c.copy_of-before.ensures ∙ sym (found_value _ _ _ _ _ _ _ _ c.self.invariant c.self.view_is c.as_slice-key.result.now c.args.key.now c.as_slice-key.ensures.value c.in-Some.row c.in-Some.ensures)

pub returns-clause-written : goal.returns-clause-written
returns-clause-written c =
    rw c.copy_of-before.ensures
    (found_written _ _ _ _ _ _ _ _ c.self.invariant c.self.view_is c.as_slice-key.result.now c.args.key.now c.as_slice-key.ensures.value c.in-Some.row c.in-Some.ensures (overwritten (get_or c.self.inside.values c.in-Some.row []) c.args.offset c.args.bytes.now) _ c.write.ensures
    (length-overwritten _ c.args.offset _ c.args.bytes.now (found_long _ _ _ _ _ _ _ _ c.self.invariant c.self.view_is c.as_slice-key.result.now c.args.key.now c.as_slice-key.ensures.value c.in-Some.row c.in-Some.ensures) c.requires)).view
