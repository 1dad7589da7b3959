use Rattle.bt_mapkind.proofs.OfKinds.{changes}
use Rattle.bt_queue.proofs.ring_kind.RingKindMapKind.change.Goals as goal

pub returns-in-Push : goal.returns-in-Push
returns-in-Push c = changes _ _ _ _ _ _ _ c.args.self.now.held.well c.in-Push.is c.push.ensures.attr c.push.ensures.step c.push.ensures.room

pub returns-in-Pop : goal.returns-in-Pop
returns-in-Pop c = changes _ _ _ _ _ _ _ c.args.self.now.held.well c.in-Pop.is c.pop.ensures.attr c.pop.ensures.step c.pop.ensures.room
