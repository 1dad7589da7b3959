use Rattle.std.proofs.Common.{sym, ◌∙◌}
use Rattle.map_table.proofs.TableLemmas.{len_is, len_fits}
use Rattle.map_table.proofs.table.Table.len.Goals as goal

pub returns-clause-count : goal.returns-clause-count
returns-clause-count c = c.len.ensures.count ∙ sym (len_is _ _ _ _ _ _ _ c.self.invariant.table c.self.view_is)

pub returns-clause-within : goal.returns-clause-within
returns-clause-within c = len_fits _ _ _ _ _ _ _ c.self.invariant.table c.self.view_is
