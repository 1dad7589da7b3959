use Rattle.std.proofs.Common.{◌≡◌, OnOk, arith, refl, sym, subst}
use Rattle.sqlite.specs.Held.{state}
use Rattle.sqlite.specs.State.{HasCleanDisk}
use Rattle.sqlite.proofs.StateLemmas.{survives_then}
use Rattle.kept_ledger.specs.Ledger.{events_of, IsLedger, IsLedgerOf}
use Rattle.kept_file.specs.Faults.{IsOpened}
use Rattle.kept_file.proofs.OpenedLemmas.{opened_as}
use Rattle.kept_file.proofs.opening.open_book.Goals as goal

pub returns-in-Ok-clause-opened : goal.returns-in-Ok-clause-opened
returns-in-Ok-clause-opened g c clean t events was =
    let mid = state g.S.Store c.read_terms.new.conn in
    let mid_clean : HasCleanDisk mid = omega (arith, clean, c.with_terms.ensures.crash.clean) in
    let same : c.in-Ok.terms ≡ t = c.in-Ok.ensures.terms mid_clean t events was in
    let ledger : IsLedger t events mid = c.in-Ok.ensures.reads.same mid_clean t events was in
    subst (λ u. IsOpened u events c.with_terms.result) same (c.with_terms.ensures.opened clean events (subst (λ u. IsLedger u events mid) (sym same) ledger))

pub returns-in-Ok-clause-kept : goal.returns-in-Ok-clause-kept
returns-in-Ok-clause-kept g c clean t b keeps = opened_as t keeps.events b c.with_terms.result keeps.leads (returns-in-Ok-clause-opened g c clean t keeps.events keeps.ledger)

pub returns-in-Ok-clause-same : goal.returns-in-Ok-clause-same
returns-in-Ok-clause-same g c clean t events was =
    let mid = state g.S.Store c.read_terms.new.conn in
    let new = state g.S.Store c.with_terms.new.conn in
    let mid_clean : HasCleanDisk mid = omega (arith, clean, c.with_terms.ensures.crash.clean) in
    let same : c.in-Ok.terms ≡ t = c.in-Ok.ensures.terms mid_clean t events was in
    let ledger : IsLedger t events mid = c.in-Ok.ensures.reads.same mid_clean t events was in
    subst (λ u. OnOk c.with_terms.result (IsLedger u events new)) same (c.with_terms.ensures.same clean events (subst (λ u. IsLedger u events mid) (sym same) ledger))

pub returns-in-Ok-clause-times : goal.returns-in-Ok-clause-times
returns-in-Ok-clause-times g c clean t es was =
    let mid = state g.S.Store c.read_terms.new.conn in
    let new = state g.S.Store c.with_terms.new.conn in
    let mid_clean : HasCleanDisk mid = omega (arith, clean, c.with_terms.ensures.crash.clean) in
    let same : c.in-Ok.terms ≡ t = c.in-Ok.ensures.terms mid_clean t (events_of es) (record { entries = es; are = refl; ledger = was }) in
    let ledger : IsLedgerOf t es mid = c.in-Ok.ensures.reads.stays mid_clean t es was in
    subst (λ u. OnOk c.with_terms.result (IsLedgerOf u es new)) same (c.with_terms.ensures.times clean es (subst (λ u. IsLedgerOf u es mid) (sym same) ledger))

pub returns-in-Ok-clause-bare : goal.returns-in-Ok-clause-bare
returns-in-Ok-clause-bare g c clean has =
    let mid_clean : HasCleanDisk (state g.S.Store c.read_terms.new.conn) = omega (arith, clean, c.with_terms.ensures.crash.clean) in
    absurd (c.in-Ok.ensures.reads.bare mid_clean has)

pub returns-in-Ok-clause-crash : goal.returns-in-Ok-clause-crash
returns-in-Ok-clause-crash g c =
    let old = state g.S.Store c.args.conn.now in
    let mid = state g.S.Store c.read_terms.new.conn in
    survives_then old mid (state g.S.Store c.with_terms.new.conn) _ _ _ (λ _ db no. no)
    (λ clean db no t events was.
    let mid_clean : HasCleanDisk mid = omega (arith, clean, c.with_terms.ensures.crash.clean) in
    no t events (c.in-Ok.ensures.reads.same mid_clean t events was))
    c.read_terms.ensures.reads.crash c.with_terms.ensures.crash

pub returns-in-Err-clause-opened : goal.returns-in-Err-clause-opened
returns-in-Err-clause-opened g c clean t events was = c.in-Err.ensures.reads.fit clean t events was

pub returns-in-Err-clause-bare : goal.returns-in-Err-clause-bare
returns-in-Err-clause-bare g c clean has = c.in-Err.ensures.reads.bare clean has
