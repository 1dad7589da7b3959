use Rattle.sqlite.specs.Held.{state}
use Rattle.sqlite.proofs.StateLemmas.{survives_weaker}
use Rattle.kept_ledger.proofs.Undone.{rolls_undone, rollback_commits}
use Rattle.kept_ledger.proofs.group.roll_back.Goals as goal

pub returns-clause-undone : goal.returns-clause-undone
returns-clause-undone g c clean = rolls_undone (state g.S.Store c.args.conn.now) (state g.S.Store c.execute.new.self) c.execute.result c.requires (c.execute.ensures.runs clean)

pub returns-clause-crash : goal.returns-clause-crash
returns-clause-crash g c =
    let old = state g.S.Store c.args.conn.now in
    survives_weaker old (state g.S.Store c.execute.new.self) _ _ (λ _ db may. rollback_commits old db may) c.execute.ensures.survives
