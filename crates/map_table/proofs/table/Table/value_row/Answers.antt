use Rattle.std.proofs.Common.{arith, ap, length, ◌∙◌}
use Rattle.map_table.proofs.TableLemmas.{len_is, row_there, value_read, value_size_is}
use Rattle.map_table.proofs.FoundLemmas.{row_in}
use Rattle.map_table.proofs.table.Table.value_row.Goals as goal

pub get-requires : goal.get-requires
get-requires c = omega (arith, len_is _ _ _ _ _ _ _ c.self.invariant.table c.self.view_is)

pub row-requires : goal.row-requires
row-requires c =
    let there = row_there _ _ _ _ _ _ _ c.self.invariant.table c.self.view_is c.args.place _ c.requires (row_in _ _ _ _ _ _ _ _ c.self.invariant c.self.view_is c.args.place _ c.requires c.get.ensures) in
    rw c.self.invariant.table.value_count there

pub returns-clause-value : goal.returns-clause-value
returns-clause-value c = c.row.ensures ∙ value_read _ _ _ _ _ _ _ c.self.invariant.table c.self.view_is c.args.place _ c.requires (row_in _ _ _ _ _ _ _ _ c.self.invariant c.self.view_is c.args.place _ c.requires c.get.ensures)

pub returns-clause-size : goal.returns-clause-size
returns-clause-size c =
    ap length (returns-clause-value c) ∙ value_size_is _ _ _ _ _ _ _ c.self.invariant.table c.self.view_is c.args.place c.requires
