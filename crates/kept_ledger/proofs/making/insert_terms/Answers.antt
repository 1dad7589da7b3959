use Rattle.std.proofs.Common.{ap₂, subst, ◌∙◌}
use Rattle.sqlite.specs.Held.{state}
use Rattle.sqlite.specs.State.{Executes}
use Rattle.sqlite.proofs.StateLemmas.{survives_weaker}
use Rattle.kept_ledger.specs.TermsRow.{terms_row}
use Rattle.kept_ledger.proofs.Made.{puts_terms, terms_commit}
use Rattle.kept_ledger.proofs.Texts.{add_terms_text}
use Rattle.kept_ledger.proofs.making.insert_terms.Goals as goal

pub returns-clause-added : goal.returns-clause-added
returns-clause-added g c clean t was terms limits devices =
    let old = state g.S.Store c.args.conn.now in
    let new = state g.S.Store c.execute.new.self in
    let given = c.terms_params.ensures ∙ ap₂ terms_row limits devices in
    puts_terms old new t c.execute.result was terms (subst (λ params. Executes add_terms_text params old new c.execute.result) given (c.execute.ensures.runs clean))

pub returns-clause-crash : goal.returns-clause-crash
returns-clause-crash g c =
    let old = state g.S.Store c.args.conn.now in
    survives_weaker old (state g.S.Store c.execute.new.self) _ _ (λ _ db may was. terms_commit old _ db was may) c.execute.ensures.survives

pub returns-clause-runs : goal.returns-clause-runs
returns-clause-runs g c clean = (_, c.execute.ensures.runs clean)
