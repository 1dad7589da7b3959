use Rattle.bt_mapkind.proofs.OfKinds.{changes_into}
use Rattle.bt_queue.proofs.ring_kind.RingKindMapKind.change_into.Goals as goal

pub returns-in-Push-clause-change : goal.returns-in-Push-clause-change
returns-in-Push-clause-change c = changes_into _ _ _ _ _ _ c.push_into.result c.push_into.new.kept.back c.args.self.now.held.well c.in-Push.is c.push_into.ensures.attr c.push_into.ensures.step c.push_into.ensures.room

pub returns-in-Pop-clause-change : goal.returns-in-Pop-clause-change
returns-in-Pop-clause-change c = changes_into _ _ _ _ _ _ c.pop_into.result c.pop_into.new.kept.back c.args.self.now.held.well c.in-Pop.is c.pop_into.ensures.attr c.pop_into.ensures.step c.pop_into.ensures.room
