use Rattle.std.proofs.Common.{refl}
use Rattle.bt_nested.proofs.HashLemmas.{turned}
use Rattle.bt_nested.proofs.hash_outer.HashOuterKindMapKind.turn.Goals as goal

pub returns-in-Link : goal.returns-in-Link
returns-in-Link c =
    rw c.exchange-before.ensures.attr (turned c.args.self.now.attr _ _ c.args.back.now c.in-Link.key _ _ _ c.args.self.now.held.well c.requires c.in-Link.is c.exchange-before.ensures.put c.exchange-before.ensures.before refl)
