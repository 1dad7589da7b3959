use Rattle.std.proofs.Common.{Some, sym, ap, ◌∙◌, arith, length}
use Rattle.map_table.proofs.FoundLemmas.{handed_rise, handed_index, handed_rows, absent, found_value_there, found_small, found_value}
use Rattle.map_table.proofs.table.Table.get.Goals as goal

pub row_of-requires-clause-rises : goal.row_of-requires-clause-rises
row_of-requires-clause-rises c = handed_rise _ _ _ _ _ _ _ _ c.self.invariant c.self.view_is

pub row_of-requires-clause-indexed : goal.row_of-requires-clause-indexed
row_of-requires-clause-indexed c = handed_index _ _ _ _ _ _ _ _ c.self.invariant c.self.view_is

pub row_of-requires-clause-rows : goal.row_of-requires-clause-rows
row_of-requires-clause-rows c = handed_rows _ _ _ _ _ _ _ _ c.self.invariant c.self.view_is

pub row-requires : goal.row-requires
row-requires c = found_value_there _ _ _ _ _ _ _ _ c.self.invariant c.self.view_is c.as_slice-key.result.now c.args.key.now c.as_slice-key.ensures.value c.in-Some.row c.in-Some.ensures

pub returns-in_default-clause-value : goal.returns-in_default-clause-value
returns-in_default-clause-value c = sym (absent _ _ _ _ _ _ _ _ c.self.invariant c.self.view_is c.as_slice-key.result.now c.args.key.now c.as_slice-key.ensures.value c.in_default.ensures)

pub returns-clause-value : goal.returns-clause-value
returns-clause-value c = ap Some c.row.ensures ∙ sym (found_value _ _ _ _ _ _ _ _ c.self.invariant c.self.view_is c.as_slice-key.result.now c.args.key.now c.as_slice-key.ensures.value c.in-Some.row c.in-Some.ensures)

pub returns-clause-small : goal.returns-clause-small
returns-clause-small c = omega (arith, ap length c.row.ensures, found_small _ _ _ _ _ _ _ _ c.self.invariant c.self.view_is c.as_slice-key.result.now c.args.key.now c.as_slice-key.ensures.value c.in-Some.row c.in-Some.ensures)
