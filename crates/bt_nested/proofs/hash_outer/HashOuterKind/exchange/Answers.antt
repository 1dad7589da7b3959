use Rattle.bt_nested.proofs.HashLemmas.{ready, held_exchanged, ids_put, id_before, no_id_before}
use Rattle.bt_nested.proofs.hash_outer.HashOuterKind.exchange.Goals as goal

pub exchange-requires-clause-room : goal.exchange-requires-clause-room
exchange-requires-clause-room c = (ready c.args.self.now.attr c.args.self.now.table c.args.key.now c.args.id c.bytes_of-value.result c.args.self.now.held c.requires c.bytes_of-value.ensures.ids c.bytes_of-value.ensures.sizes).room

pub invariant_of-self : goal.invariant_of-self
invariant_of-self c =
    record {
      held = held_exchanged c.args.self.now.attr c.args.self.now.table _ c.args.key.now c.args.id c.bytes_of-value.result c.args.self.now.held c.requires c.bytes_of-value.ensures.ids c.bytes_of-value.ensures.sizes c.exchange.ensures.put;
    }

pub returns-in-Some-clause-put : goal.returns-in-Some-clause-put
returns-in-Some-clause-put c = ids_put c.args.self.now.table _ c.args.key.now c.args.id _ c.bytes_of-value.ensures.ids c.in-Some.ensures.put

pub returns-in-Some-clause-before : goal.returns-in-Some-clause-before
returns-in-Some-clause-before c = id_before c.args.self.now.table.entries c.args.key.now _ _ c.in-Some.ensures.before c.index.ensures

pub returns-in-None-clause-put : goal.returns-in-None-clause-put
returns-in-None-clause-put c = ids_put c.args.self.now.table _ c.args.key.now c.args.id _ c.bytes_of-value.ensures.ids c.in-None.ensures.put

pub returns-in-None-clause-before : goal.returns-in-None-clause-before
returns-in-None-clause-before c = no_id_before c.args.self.now.table.entries c.args.key.now c.in-None.ensures.before
