use Rattle.std.proofs.Common.{refl}
use Rattle.sqlite.specs.Held.{state}
use Rattle.sqlite.proofs.StateLemmas.{survives_weaker}
use Rattle.kept_ledger.proofs.Adding.{begins, begins_unmade, begin_commits}
use Rattle.kept_ledger.proofs.Undone.{keeps_begin}
use Rattle.kept_ledger.proofs.group.begin.Goals as goal

pub returns-clause-begun : goal.returns-clause-begun
returns-clause-begun g c clean t es was =
    begins t (state g.S.Store c.args.conn.now) (state g.S.Store c.execute.new.self) es c.execute.result was (c.execute.ensures.runs clean)

pub returns-clause-crash : goal.returns-clause-crash
returns-clause-crash g c =
    let old = state g.S.Store c.args.conn.now in
    survives_weaker old (state g.S.Store c.execute.new.self) _ _ (λ _ db may. begin_commits old old.now.schema db refl may) c.execute.ensures.survives

pub returns-clause-making : goal.returns-clause-making
returns-clause-making g c clean was = begins_unmade (state g.S.Store c.args.conn.now) (state g.S.Store c.execute.new.self) c.execute.result was (c.execute.ensures.runs clean)

pub returns-clause-keeps : goal.returns-clause-keeps
returns-clause-keeps g c clean t es was = keeps_begin (state g.S.Store c.args.conn.now) (state g.S.Store c.execute.new.self) t es c.execute.result was (c.execute.ensures.runs clean)
