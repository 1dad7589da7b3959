use Rattle.bt_mapkind.proofs.OfKinds.{changes}
use Rattle.bt_nested.proofs.slots_kind.SlotsKindMapKind.change.Goals as goal

pub returns-in-Delete : goal.returns-in-Delete
returns-in-Delete c = changes _ _ _ _ _ _ _ c.args.self.now.held.well c.in-Delete.is c.delete.ensures.attr c.delete.ensures.step c.delete.ensures.room

pub returns-in-SetLink : goal.returns-in-SetLink
returns-in-SetLink c = changes _ _ _ _ _ _ _ c.args.self.now.held.well c.in-SetLink.is c.set_link.ensures.attr c.set_link.ensures.step c.set_link.ensures.room
