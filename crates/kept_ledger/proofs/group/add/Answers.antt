use Rattle.sqlite.specs.Held.{state}
use Rattle.kept_ledger.proofs.Undone.{keeps_none}
use Rattle.kept_ledger.specs.Statements.{add_text}
use Rattle.kept_ledger.proofs.Reasons.{by_statement, lacked}
use Rattle.kept_ledger.proofs.group.add.Goals as goal

pub returns-clause-added : goal.returns-clause-added
returns-clause-added g c clean t es was = c.insert.ensures.added clean t es c.args.event.now was c.in_ok-row.ensures.bounded c.in_ok-row.ensures.row

pub returns-in_err-row-clause-keeps : goal.returns-in_err-row-clause-keeps
returns-in_err-row-clause-keeps g c clean t es was = keeps_none (state g.S.Store c.args.conn.now)

pub returns-clause-reason : goal.returns-clause-reason
returns-clause-reason g c clean = by_statement (state g.S.Store c.args.conn.now) (state g.S.Store c.insert.new.conn) add_text c.insert.result (c.insert.ensures.runs clean)

pub returns-in_err-row-clause-reason : goal.returns-in_err-row-clause-reason
returns-in_err-row-clause-reason g c clean = lacked _ c.from_residual.result c.from_residual.ensures.1
