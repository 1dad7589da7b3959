use Rattle.std.proofs.Common.{sym, ap₂, ◌∙◌}
use Rattle.std.specs.Prelude.{nat_le}
use Rattle.map_table.proofs.TableLemmas.{len_is, capacity_is}
use Rattle.map_table.proofs.table.Table.is_full.Goals as goal

pub returns : goal.returns
returns c =
    ap₂ nat_le (c.len.ensures ∙ sym (capacity_is _ _ _ _ _ _ _ c.self.invariant.table c.self.view_is)) (c.len-2.ensures.count ∙ sym (len_is _ _ _ _ _ _ _ c.self.invariant.table c.self.view_is))
