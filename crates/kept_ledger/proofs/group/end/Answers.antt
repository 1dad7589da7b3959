use Rattle.sqlite.specs.Held.{state}
use Rattle.sqlite.proofs.StateLemmas.{survives_weaker}
use Rattle.kept_ledger.proofs.Adding.{ends, end_commits}
use Rattle.kept_ledger.proofs.Undone.{keeps_end}
use Rattle.kept_ledger.proofs.group.end.Goals as goal

pub returns-clause-ended : goal.returns-clause-ended
returns-clause-ended g c clean t es was =
    ends t (state g.S.Store c.args.conn.now) (state g.S.Store c.execute.new.self) es c.execute.result was (c.execute.ensures.runs clean)

pub returns-clause-crash : goal.returns-clause-crash
returns-clause-crash g c =
    let old = state g.S.Store c.args.conn.now in
    survives_weaker old (state g.S.Store c.execute.new.self) _ _ (λ _ db may t es was. end_commits t old es db was may) c.execute.ensures.survives

pub returns-clause-keeps : goal.returns-clause-keeps
returns-clause-keeps g c clean = keeps_end _ (state g.S.Store c.args.conn.now) (state g.S.Store c.execute.new.self) c.execute.result (c.execute.ensures.runs clean)
