use Rattle.std.proofs.Common.{[], refl}
use Rattle.sqlite.specs.Held.{state}
use Rattle.sqlite.proofs.StateLemmas.{survives_weaker}
use Rattle.kept_ledger.specs.Ledger.{IsUnmade}
use Rattle.kept_ledger.proofs.Adding.{ledger_after, leaves_after, hold_more, ok_first}
use Rattle.kept_ledger.proofs.making.create.Goals as goal

pub returns-clause-makes : goal.returns-clause-makes
returns-clause-makes g c =
    let terms = c.args.terms.now in
    let old = state g.S.Store c.args.conn.now in
    let new = state g.S.Store c.create_all.new.conn in
    let was : IsUnmade old = record { schema = c.requires.unmade; autocommit = c.requires.autocommit } in
    record {
      done = λ clean. ledger_after terms new [] [] c.args.events.now c.args.time refl c.create_all.result (c.create_all.ensures.made clean was);
      durable = λ clean.
          leaves_after terms new [] [] c.args.events.now c.args.time refl c.create_all.result (c.create_all.ensures.made clean was)
          (λ db is_open may. g.met.S.Store.settled c.create_all.new.conn.store db is_open may);
      crash = survives_weaker old new _ _ (λ _ db held. hold_more terms [] [] c.args.events.now c.args.time db refl held) (c.create_all.ensures.crash was);
    }

pub returns-clause-times : goal.returns-clause-times
returns-clause-times g c clean =
    let was : IsUnmade (state g.S.Store c.args.conn.now) = record { schema = c.requires.unmade; autocommit = c.requires.autocommit } in
    ok_first _ _ c.create_all.result (c.create_all.ensures.made clean was)

pub returns-clause-reason : goal.returns-clause-reason
returns-clause-reason g c clean =
    c.create_all.ensures.reason clean (record { schema = c.requires.unmade; autocommit = c.requires.autocommit })
