use Rattle.std.proofs.Common.{sym, ◌∙◌}
use Rattle.map_table.proofs.KeptLemmas.{is_new}
use Rattle.map_table.proofs.table.Table.add_into.Goals as goal

pub put-requires-clause-absent : goal.put-requires-clause-absent
put-requires-clause-absent c = (is_new _ _ _ _ _ c.requires.absent (sym c.put_fault.ensures ∙ c.in_default.is)).absent

pub put-requires-clause-room : goal.put-requires-clause-room
put-requires-clause-room c = (is_new _ _ _ _ _ c.requires.absent (sym c.put_fault.ensures ∙ c.in_default.is)).room

pub returns-clause-fresh : goal.returns-clause-fresh
returns-clause-fresh c = (is_new _ _ _ _ _ c.requires.absent (sym c.put_fault.ensures ∙ c.in_default.is)).fresh

pub returns-clause-kept : goal.returns-clause-kept
returns-clause-kept c = rw ((is_new _ _ _ _ _ c.requires.absent (sym c.put_fault.ensures ∙ c.in_default.is)).absent, ← c.copy.ensures) c.fill.ensures
