use Rattle.std.proofs.Common.{arith, refl}
use Rattle.map_table.proofs.TableLemmas.{len_is, row_there}
use Rattle.map_table.proofs.FoundLemmas.{row_in, taken_linked, left_within, take_kept}
use Rattle.map_table.proofs.table.Table.take.Goals as goal

pub remove-row-requires : goal.remove-row-requires
remove-row-requires c = omega (arith, len_is _ _ _ _ _ _ _ c.self.invariant.table c.self.view_is)

pub unlink-requires-clause-row : goal.unlink-requires-clause-row
unlink-requires-clause-row c = rw c.self.invariant.index.rows (row_there _ _ _ _ _ _ _ c.self.invariant.table c.self.view_is c.args.place _ c.requires (row_in _ _ _ _ _ _ _ _ c.self.invariant c.self.view_is c.args.place _ c.requires c.remove-row.ensures.row))

pub unlink-requires-clause-linked : goal.unlink-requires-clause-linked
unlink-requires-clause-linked c = taken_linked _ _ _ _ _ _ _ _ c.self.invariant c.self.view_is c.args.place _ c.requires (row_in _ _ _ _ _ _ _ _ c.self.invariant c.self.view_is c.args.place _ c.requires c.remove-row.ensures.row)

pub index_mut-requires : goal.index_mut-requires
index_mut-requires c = omega (arith, left_within _ _ _ _ _ _ _ _ c.self.invariant c.self.view_is c.args.place _ _ c.requires c.remove-row.ensures.removed c.len-left.ensures.count, c.self.inside.free.ok.0)

pub invariant_of-self : goal.invariant_of-self
invariant_of-self c =
    (take_kept _ _ _ _ _ _ _ _ c.self.invariant c.self.view_is c.args.place _ _ _ _ _ c.requires c.remove-row.ensures.row c.remove-row.ensures.removed c.len-left.ensures.count refl c.unlink.ensures).invariant

pub returns : goal.returns
returns c =
    (take_kept _ _ _ _ _ _ _ _ c.self.invariant c.self.view_is c.args.place _ _ _ _ _ c.requires c.remove-row.ensures.row c.remove-row.ensures.removed c.len-left.ensures.count refl c.unlink.ensures).view
