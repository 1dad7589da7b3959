use Rattle.bt_array.proofs.ArrayLemmas.{is_well}
use Rattle.bt_mapkind.proofs.OfKinds.{changes}
use Rattle.bt_array.proofs.array.ArrayKindMapKind.change.Goals as goal

pub returns-in-Update : goal.returns-in-Update
returns-in-Update c =
    changes _ _ _ _ _ _ _ (is_well _ _ (record { good = c.args.self.now.good_attr; count = c.args.self.now.count; sizes = c.args.self.now.sizes })) c.in-Update.is c.update.ensures.attr c.update.ensures.step c.update.ensures.room

pub returns-in-Store : goal.returns-in-Store
returns-in-Store c =
    changes _ _ _ _ _ _ _ (is_well _ _ (record { good = c.args.self.now.good_attr; count = c.args.self.now.count; sizes = c.args.self.now.sizes })) c.in-Store.is c.store.ensures.attr c.store.ensures.step c.store.ensures.room

pub returns-in-Atomic : goal.returns-in-Atomic
returns-in-Atomic c =
    changes _ _ _ _ _ _ _ (is_well _ _ (record { good = c.args.self.now.good_attr; count = c.args.self.now.count; sizes = c.args.self.now.sizes })) c.in-Atomic.is c.combine.ensures.attr c.combine.ensures.step c.combine.ensures.room
