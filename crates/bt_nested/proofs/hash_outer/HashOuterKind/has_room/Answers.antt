use Rattle.std.proofs.Common.{arith}
use Rattle.bt_nested.proofs.HashLemmas.{room_below, room_full}
use Rattle.bt_nested.proofs.hash_outer.HashOuterKind.has_room.Goals as goal

pub returns-then-len-self : goal.returns-then-len-self
returns-then-len-self c = room_below c.args.self.now.attr _ c.args.key.now _ c.len.ensures.count c.if-len-self.true

pub returns-else-len-self : goal.returns-else-len-self
returns-else-len-self c =
    room_full c.args.self.now.attr _ c.args.key.now _ (omega (arith, c.len.ensures.count, c.if-len-self.false)) c.holds.ensures
