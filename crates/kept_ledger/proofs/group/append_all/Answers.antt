use Rattle.std.proofs.Common.{arith}
use Rattle.sqlite.specs.Held.{state}
use Rattle.sqlite.specs.State.{HasCleanDisk}
use Rattle.sqlite.proofs.StateLemmas.{survives_weaker, survives_then}
use Rattle.kept_ledger.proofs.Adding.{ledger_more, leaves_more, hold_more}
use Rattle.kept_ledger.proofs.Undone.{kept_after}
use Rattle.kept_ledger.specs.Statements.{adding}
use Rattle.kept_ledger.proofs.Reasons.{between}
use Rattle.kept_ledger.proofs.group.append_all.Goals as goal

pub returns-in-Ok-clause-adds : goal.returns-in-Ok-clause-adds
returns-in-Ok-clause-adds g c t events was =
    let new = state g.S.Store c.append.new.conn in
    record {
      done = λ clean. ledger_more t new was.entries events c.args.more.now c.args.time was.are (c.in-Ok.ensures.added clean t was.entries was.ledger).0;
      durable = λ clean.
          let added = c.in-Ok.ensures.added clean t was.entries was.ledger in
          leaves_more t new was.entries events c.args.more.now c.args.time was.are added.0 added.1 (λ db is_open may. g.met.S.Store.settled c.append.new.conn.store db is_open may);
      crash =
          survives_weaker (state g.S.Store c.args.conn.now) new _ _ (λ _ db held. hold_more t was.entries events c.args.more.now c.args.time db was.are (held t was.entries was.ledger))
          c.append.ensures.crash;
    }

pub returns-in-Err-clause-adds : goal.returns-in-Err-clause-adds
returns-in-Err-clause-adds g c t events was = record {
  done = λ clean. tt;
  durable = λ clean. tt;
  crash =
      survives_then (state g.S.Store c.args.conn.now) (state g.S.Store c.append.new.conn) (state g.S.Store c.give_up.new.conn) _ _ _
      (λ _ db held. hold_more t was.entries events c.args.more.now c.args.time db was.are (held t was.entries was.ledger)) (λ _ db no. absurd no) c.append.ensures.crash c.give_up.ensures.crash;
}

pub returns-in-Ok-clause-crash : goal.returns-in-Ok-clause-crash
returns-in-Ok-clause-crash g c =
    survives_weaker (state g.S.Store c.args.conn.now) (state g.S.Store c.append.new.conn) _ _
    (λ _ db held t events was. hold_more t was.entries events c.args.more.now c.args.time db was.are (held t was.entries was.ledger)) c.append.ensures.crash

pub returns-in-Err-clause-crash : goal.returns-in-Err-clause-crash
returns-in-Err-clause-crash g c =
    survives_then (state g.S.Store c.args.conn.now) (state g.S.Store c.append.new.conn) (state g.S.Store c.give_up.new.conn) _ _ _
    (λ _ db held t events was. hold_more t was.entries events c.args.more.now c.args.time db was.are (held t was.entries was.ledger)) (λ _ db no. absurd no) c.append.ensures.crash c.give_up.ensures.crash

pub returns-in-Err-clause-kept : goal.returns-in-Err-clause-kept
returns-in-Err-clause-kept g c clean t events was still =
    let mid : HasCleanDisk (state g.S.Store c.append.new.conn) = omega (arith, clean, c.give_up.ensures.crash.clean) in
    kept_after (state g.S.Store c.args.conn.now) (state g.S.Store c.append.new.conn) (state g.S.Store c.give_up.new.conn) t events was (c.in-Err.ensures.keeps mid t was.entries was.ledger)
    (c.give_up.ensures.undone clean) still

pub returns-in-Ok-clause-times : goal.returns-in-Ok-clause-times
returns-in-Ok-clause-times g c clean t es was = (c.in-Ok.ensures.added clean t es was).0

pub returns-in-Err-clause-reason : goal.returns-in-Err-clause-reason
returns-in-Err-clause-reason g c clean t es was =
    let old = c.args.conn.now in
    let mid = c.append.new.conn in
    let new = c.give_up.new.conn in
    let middle : HasCleanDisk (state g.S.Store mid) = omega (arith, clean, c.give_up.ensures.crash.clean) in
    between g.S.Store adding old old mid new _ (omega arith) c.give_up.ensures.crash.counts (c.in-Err.ensures.reason middle t es was)
