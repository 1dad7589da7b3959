use Rattle.bt_mapkind.proofs.OfKinds.{changes}
use Rattle.bt_hash.proofs.entries.EntriesKindMapKind.change.Goals as goal

pub returns-in-Update : goal.returns-in-Update
returns-in-Update g c = changes _ _ _ _ _ _ _ c.args.self.now.held.well c.in-Update.is c.update.ensures.attr c.update.ensures.step c.update.ensures.room

pub returns-in-Delete : goal.returns-in-Delete
returns-in-Delete g c = changes _ _ _ _ _ _ _ c.args.self.now.held.well c.in-Delete.is c.delete.ensures.attr c.delete.ensures.step c.delete.ensures.room

pub returns-in-Store : goal.returns-in-Store
returns-in-Store g c = changes _ _ _ _ _ _ _ c.args.self.now.held.well c.in-Store.is c.store.ensures.attr c.store.ensures.step c.store.ensures.room

pub returns-in-Atomic : goal.returns-in-Atomic
returns-in-Atomic g c = changes _ _ _ _ _ _ _ c.args.self.now.held.well c.in-Atomic.is c.combine.ensures.attr c.combine.ensures.step c.combine.ensures.room
