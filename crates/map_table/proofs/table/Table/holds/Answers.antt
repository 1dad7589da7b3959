use Rattle.std.proofs.Common.{◌∙◌}
use Rattle.map_table.proofs.FoundLemmas.{handed_rise, handed_index, handed_rows, is_there}
use Rattle.map_table.proofs.table.Table.holds.Goals as goal

pub row_of-requires-clause-rises : goal.row_of-requires-clause-rises
row_of-requires-clause-rises c = handed_rise _ _ _ _ _ _ _ _ c.self.invariant c.self.view_is

pub row_of-requires-clause-indexed : goal.row_of-requires-clause-indexed
row_of-requires-clause-indexed c = handed_index _ _ _ _ _ _ _ _ c.self.invariant c.self.view_is

pub row_of-requires-clause-rows : goal.row_of-requires-clause-rows
row_of-requires-clause-rows c = handed_rows _ _ _ _ _ _ _ _ c.self.invariant c.self.view_is

pub returns : goal.returns
returns c = c.is_some.ensures ∙ is_there _ _ _ _ _ _ _ _ c.self.invariant c.self.view_is c.as_slice-key.result.now c.args.key.now c.as_slice-key.ensures.value c.row_of.result c.row_of.ensures
