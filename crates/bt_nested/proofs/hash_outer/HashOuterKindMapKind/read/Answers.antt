use Rattle.bt_nested.proofs.HashLemmas.{counted}
use Rattle.bt_nested.proofs.hash_outer.HashOuterKindMapKind.read.Goals as goal

pub returns-in-Count : goal.returns-in-Count
returns-in-Count c = rw c.in-Count.is (counted c.args.self.now.attr c.args.self.now.table.entries _ c.len.ensures.count)
