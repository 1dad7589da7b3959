use Rattle.std.proofs.Common.{arith}
use Rattle.map_table.proofs.MapLemmas.{no_entry, entry_seen}
use Rattle.map_table.proofs.table.Table.nth.Goals as goal

pub returns-then-index-len : goal.returns-then-index-len
returns-then-index-len c = no_entry _ c.args.index (omega (arith, c.len.ensures.count, c.if-index-len.true))

pub returns : goal.returns
returns c = entry_seen _ _ _ c.args.index (omega (arith, c.len.ensures.count, c.if-index-len.false)) c.key_at.ensures c.value_at.ensures
