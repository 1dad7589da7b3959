use Rattle.bt_mapkind.proofs.OfKinds.{changes_into}
use Rattle.bt_hash.proofs.entries.EntriesKindMapKind.change_into.Goals as goal

pub returns-in-Update-clause-change : goal.returns-in-Update-clause-change
returns-in-Update-clause-change g c = changes_into _ _ _ _ _ _ c.update_into.result c.update_into.new.kept.back c.args.self.now.held.well c.in-Update.is c.update_into.ensures.attr c.update_into.ensures.step c.update_into.ensures.room

pub returns-in-Delete-clause-change : goal.returns-in-Delete-clause-change
returns-in-Delete-clause-change g c = changes_into _ _ _ _ _ _ c.delete_into.result c.delete_into.new.kept.back c.args.self.now.held.well c.in-Delete.is c.delete_into.ensures.attr c.delete_into.ensures.step c.delete_into.ensures.room

pub returns-in-Store-clause-change : goal.returns-in-Store-clause-change
returns-in-Store-clause-change g c = changes_into _ _ _ _ _ _ c.store_into.result c.store_into.new.kept.back c.args.self.now.held.well c.in-Store.is c.store_into.ensures.attr c.store_into.ensures.step c.store_into.ensures.room

pub returns-in-Atomic-clause-change : goal.returns-in-Atomic-clause-change
returns-in-Atomic-clause-change g c = changes_into _ _ _ _ _ _ c.combine_into.result c.combine_into.new.kept.back c.args.self.now.held.well c.in-Atomic.is c.combine_into.ensures.attr c.combine_into.ensures.step c.combine_into.ensures.room
