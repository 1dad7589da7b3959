use Rattle.std.proofs.Common.{◌∷◌, Some, ap, subst, ◌∙◌}
use Rattle.sqlite.specs.Held.{state}
use Rattle.sqlite.specs.State.{Executes}
use Rattle.sqlite.proofs.StateLemmas.{survives_weaker}
use Rattle.kept_event.specs.declared.row.Row.{Row}
use Rattle.kept_ledger.specs.Columns.{number, columns_of, Fits}
use Rattle.kept_ledger.specs.Ledger.{Entry, IsKept}
use Rattle.kept_ledger.proofs.Adding.{adds_inside, add_commits}
use Rattle.kept_ledger.proofs.Texts.{add_text}
use Rattle.kept_ledger.proofs.Undone.{keeps_add}
use Rattle.kept_ledger.proofs.group.insert.Goals as goal

pub returns-clause-added : goal.returns-clause-added
returns-clause-added g c clean t es event was bounded same =
    let old = state g.S.Store c.args.conn.now in
    let new = state g.S.Store c.execute.new.self in
    let e : Entry = record { time = c.args.time; event = event } in
    let given = c.params.ensures.values ∙ ap (λ (row : Row). number (Some c.args.time) ∷ columns_of row) same in
    let one : IsKept e = record { timed = c.params.ensures.timed; bounded = bounded; fits = subst Fits same c.params.ensures.fits } in
    adds_inside t old new e es c.execute.result was one (subst (λ params. Executes add_text params old new c.execute.result) given (c.execute.ensures.runs clean))

pub returns-clause-crash : goal.returns-clause-crash
returns-clause-crash g c =
    let old = state g.S.Store c.args.conn.now in
    survives_weaker old (state g.S.Store c.execute.new.self) _ _ (λ _ db may t es was. add_commits t old _ es db was may) c.execute.ensures.survives

pub returns-clause-keeps : goal.returns-clause-keeps
returns-clause-keeps g c clean t es was = keeps_add (state g.S.Store c.args.conn.now) (state g.S.Store c.execute.new.self) _ t es c.execute.result was (c.execute.ensures.runs clean)

pub returns-clause-runs : goal.returns-clause-runs
returns-clause-runs g c clean = (_, c.execute.ensures.runs clean)
