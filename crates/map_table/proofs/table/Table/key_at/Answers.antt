use Rattle.std.proofs.Common.{arith, ◌∙◌}
use Rattle.map_table.proofs.TableLemmas.{len_is, row_there, key_read}
use Rattle.map_table.proofs.FoundLemmas.{row_in}
use Rattle.map_table.proofs.table.Table.key_at.Goals as goal

pub get-requires : goal.get-requires
get-requires c = omega (arith, len_is _ _ _ _ _ _ _ c.self.invariant.table c.self.view_is)

pub copy_of-requires-clause-there : goal.copy_of-requires-clause-there
copy_of-requires-clause-there c = row_there _ _ _ _ _ _ _ c.self.invariant.table c.self.view_is c.args.place _ c.requires (row_in _ _ _ _ _ _ _ _ c.self.invariant c.self.view_is c.args.place _ c.requires c.get.ensures)

pub returns : goal.returns
returns c = c.copy_of.ensures ∙ key_read _ _ _ _ _ _ _ c.self.invariant.table c.self.view_is c.args.place _ c.requires (row_in _ _ _ _ _ _ _ _ c.self.invariant c.self.view_is c.args.place _ c.requires c.get.ensures)
