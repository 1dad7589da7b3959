use Rattle.sqlite.specs.Held.{state}
use Rattle.kept_ledger.specs.Statements.{add_terms_text}
use Rattle.kept_ledger.proofs.Reasons.{by_statement, lacked}
use Rattle.kept_ledger.proofs.making.add_terms.Goals as goal

pub returns-clause-reason : goal.returns-clause-reason
returns-clause-reason g c clean = by_statement (state g.S.Store c.args.conn.now) (state g.S.Store c.insert_terms.new.conn) add_terms_text c.insert_terms.result (c.insert_terms.ensures.runs clean)

pub returns-in_err-devices-clause-reason : goal.returns-in_err-devices-clause-reason
returns-in_err-devices-clause-reason g c clean = lacked _ c.from_residual.result c.from_residual.ensures.1
