use Rattle.std.proofs.Common.{arith}
use Rattle.map_table.proofs.MapLemmas.{no_key, key_seen}
use Rattle.map_table.proofs.table.Table.nth_key.Goals as goal

pub returns-then-index-len : goal.returns-then-index-len
returns-then-index-len c = no_key _ c.args.index (omega (arith, c.len.ensures.count, c.if-index-len.true))

pub returns : goal.returns
returns c = key_seen _ _ c.args.index (omega (arith, c.len.ensures.count, c.if-index-len.false)) c.key_at.ensures
