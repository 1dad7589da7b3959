use Rattle.std.proofs.Common.{◌≤◌, List, [], inl, inr, refl, arith}
use Rattle.sqlite.specs.State.{HasCleanDisk, Survives}
use Rattle.sqlite.proofs.StateLemmas.{survives_weaker, survives_then}
use Rattle.sqlite.specs.Held.{state}
use Rattle.kept_ledger.specs.TermsView.{PlainTerms}
use Rattle.kept_ledger.specs.Ledger.{Entry, IsLedgerOf}
use Rattle.kept_ledger.proofs.Undone.{on_err, then_keeps}
use Rattle.kept_ledger.specs.Statements.{begin_text, end_text, adding, HasReason}
use Rattle.kept_ledger.proofs.Reasons.{passed, at_last, between, as_adding}
use Rattle.kept_ledger.proofs.group.append.Goals as goal

pub returns-clause-added : goal.returns-clause-added
returns-clause-added g c clean t es was =
    let mid : HasCleanDisk (state g.S.Store c.add_each.new.conn) = omega (arith, c.end.ensures.crash.clean) in
    let first : HasCleanDisk (state g.S.Store c.begin.new.conn) = omega (arith, mid, c.add_each.ensures.crash.clean) in
    c.in_ok-end.ensures.ended clean t _ (c.in_ok-add_each.ensures.added mid t es (c.in_ok-begin.ensures.begun first t es was))

pub returns-in_err-begin-clause-keeps : goal.returns-in_err-begin-clause-keeps
returns-in_err-begin-clause-keeps g c clean t es was = on_err c.from_residual.result (c.begin.ensures.keeps clean t es was)

pub returns-in_err-add_each-clause-keeps : goal.returns-in_err-add_each-clause-keeps
returns-in_err-add_each-clause-keeps g c clean t es was =
    let first : HasCleanDisk (state g.S.Store c.begin.new.conn) = omega (arith, clean, c.add_each.ensures.crash.clean) in
    on_err c.from_residual-in_err-add_each.result
    (then_keeps (state g.S.Store c.args.conn.now) (state g.S.Store c.begin.new.conn) (state g.S.Store c.add_each.new.conn) (c.begin.ensures.keeps first t es was)
    (c.add_each.ensures.keeps clean t es (c.in_ok-begin.ensures.begun first t es was)))

pub returns-in_err-end-clause-keeps : goal.returns-in_err-end-clause-keeps
returns-in_err-end-clause-keeps g c clean t es was =
    let mid : HasCleanDisk (state g.S.Store c.add_each.new.conn) = omega (arith, clean, c.end.ensures.crash.clean) in
    let first : HasCleanDisk (state g.S.Store c.begin.new.conn) = omega (arith, mid, c.add_each.ensures.crash.clean) in
    let old = state g.S.Store c.args.conn.now in
    let added = then_keeps old (state g.S.Store c.begin.new.conn) (state g.S.Store c.add_each.new.conn) (c.begin.ensures.keeps first t es was)
    (c.add_each.ensures.keeps mid t es (c.in_ok-begin.ensures.begun first t es was)) in
    on_err c.from_residual-in_err-end.result (then_keeps old (state g.S.Store c.add_each.new.conn) (state g.S.Store c.end.new.conn) added (c.in_err-end.ensures.keeps clean))

pub returns-in_err-begin-clause-crash : goal.returns-in_err-begin-clause-crash
returns-in_err-begin-clause-crash g c = survives_weaker (state g.S.Store c.args.conn.now) (state g.S.Store c.begin.new.conn) _ _ (λ _ db no. absurd no) c.begin.ensures.crash

pub returns-in_err-add_each-clause-crash : goal.returns-in_err-add_each-clause-crash
returns-in_err-add_each-clause-crash g c =
    let old = state g.S.Store c.args.conn.now in
    let begun = state g.S.Store c.begin.new.conn in
    let mid = state g.S.Store c.add_each.new.conn in
    let quiet : Survives old mid (λ _. (t : PlainTerms) (es : List Entry) → IsLedgerOf t es old → ⊥) =
    survives_then old begun mid _ _ _ (λ _ db no t es was. no)
    (λ clean db no t es was.
    let first : HasCleanDisk begun = omega (arith, clean, c.add_each.ensures.crash.clean) in
    no t es (c.in_ok-begin.ensures.begun first t es was))
    c.begin.ensures.crash c.add_each.ensures.crash in
    survives_weaker old mid _ _ (λ _ db no t es was. absurd (no t es was)) quiet

pub returns-in_err-end-clause-crash : goal.returns-in_err-end-clause-crash
returns-in_err-end-clause-crash g c =
    let old = state g.S.Store c.args.conn.now in
    let begun = state g.S.Store c.begin.new.conn in
    let mid = state g.S.Store c.add_each.new.conn in
    let quiet : Survives old mid (λ _. (t : PlainTerms) (es : List Entry) → IsLedgerOf t es old → ⊥) =
    survives_then old begun mid _ _ _ (λ _ db no t es was. no)
    (λ clean db no t es was.
    let first : HasCleanDisk begun = omega (arith, clean, c.add_each.ensures.crash.clean) in
    no t es (c.in_ok-begin.ensures.begun first t es was))
    c.begin.ensures.crash c.add_each.ensures.crash in
    let new = state g.S.Store c.end.new.conn in
    survives_then old mid new _ _ _ (λ _ db no t es was. absurd (no t es was))
    (λ clean db held t es was.
    let middle : HasCleanDisk mid = omega (arith, clean, c.end.ensures.crash.clean) in
    let first : HasCleanDisk begun = omega (arith, middle, c.add_each.ensures.crash.clean) in
    held t _ (c.in_ok-add_each.ensures.added middle t es (c.in_ok-begin.ensures.begun first t es was)))
    quiet c.end.ensures.crash

pub returns-clause-crash : goal.returns-clause-crash
returns-clause-crash g c =
    let old = state g.S.Store c.args.conn.now in
    let begun = state g.S.Store c.begin.new.conn in
    let mid = state g.S.Store c.add_each.new.conn in
    let quiet : Survives old mid (λ _. (t : PlainTerms) (es : List Entry) → IsLedgerOf t es old → ⊥) =
    survives_then old begun mid _ _ _ (λ _ db no t es was. no)
    (λ clean db no t es was.
    let first : HasCleanDisk begun = omega (arith, clean, c.add_each.ensures.crash.clean) in
    no t es (c.in_ok-begin.ensures.begun first t es was))
    c.begin.ensures.crash c.add_each.ensures.crash in
    let new = state g.S.Store c.end.new.conn in
    survives_then old mid new _ _ _ (λ _ db no t es was. absurd (no t es was))
    (λ clean db held t es was.
    let middle : HasCleanDisk mid = omega (arith, clean, c.end.ensures.crash.clean) in
    let first : HasCleanDisk begun = omega (arith, middle, c.add_each.ensures.crash.clean) in
    held t _ (c.in_ok-add_each.ensures.added middle t es (c.in_ok-begin.ensures.begun first t es was)))
    quiet c.end.ensures.crash

pub returns-in_err-begin-clause-reason : goal.returns-in_err-begin-clause-reason
returns-in_err-begin-clause-reason g c clean t es was =
    let old = c.args.conn.now in
    let begun = c.begin.new.conn in
    let e = c.in_err-begin.field-0.0 in
    passed (HasReason g.S.Store adding old begun) e c.from_residual.result c.from_residual.ensures.1
    (at_last g.S.Store adding old old begun begin_text [] e (inl (was.schema, refl)) (omega arith) (c.in_err-begin.ensures.runs clean))

pub returns-in_err-add_each-clause-reason : goal.returns-in_err-add_each-clause-reason
returns-in_err-add_each-clause-reason g c clean t es was =
    let old = c.args.conn.now in
    let begun = c.begin.new.conn in
    let mid = c.add_each.new.conn in
    let first : HasCleanDisk (state g.S.Store begun) = omega (arith, clean, c.add_each.ensures.crash.clean) in
    let e = c.in_err-add_each.field-0.0 in
    passed (HasReason g.S.Store adding old mid) e c.from_residual-in_err-add_each.result c.from_residual-in_err-add_each.ensures.1
    (between g.S.Store adding old begun mid mid e c.begin.ensures.crash.counts (omega arith) (as_adding g.S.Store begun mid e (c.in_err-add_each.ensures.reason clean t es (c.in_ok-begin.ensures.begun first t es was))))

pub returns-in_err-end-clause-reason : goal.returns-in_err-end-clause-reason
returns-in_err-end-clause-reason g c clean t es was =
    let old = c.args.conn.now in
    let begun = c.begin.new.conn in
    let mid = c.add_each.new.conn in
    let new = c.end.new.conn in
    let middle : HasCleanDisk (state g.S.Store mid) = omega (arith, clean, c.end.ensures.crash.clean) in
    let first : HasCleanDisk (state g.S.Store begun) = omega (arith, middle, c.add_each.ensures.crash.clean) in
    let is = c.in_ok-add_each.ensures.added middle t es (c.in_ok-begin.ensures.begun first t es was) in
    let since : (state g.S.Store old).faults ≤ (state g.S.Store mid).faults = omega (arith, c.begin.ensures.crash.counts, c.add_each.ensures.crash.counts) in
    let e = c.in_err-end.field-0.0 in
    passed (HasReason g.S.Store adding old new) e c.from_residual-in_err-end.result c.from_residual-in_err-end.ensures.1
    (at_last g.S.Store adding old mid new end_text [] e (inr (inr (inl (is.schema, refl)))) since (c.in_err-end.ensures.runs clean))
