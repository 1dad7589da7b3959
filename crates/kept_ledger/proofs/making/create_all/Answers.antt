use Rattle.std.proofs.Common.{◌≤◌, [], inl, inr, refl, arith}
use Rattle.sqlite.specs.Held.{state}
use Rattle.sqlite.specs.State.{HasCleanDisk}
use Rattle.sqlite.proofs.StateLemmas.{survives_weaker}
use Rattle.kept_ledger.specs.Ledger.{stamped}
use Rattle.kept_ledger.proofs.Made.{IsMadeBy, quiet, all_added, all_committed}
use Rattle.kept_ledger.specs.Statements.{begin_text, make_events_text, make_book_text, add_terms_text, end_text, making, HasReason}
use Rattle.kept_ledger.proofs.Reasons.{passed, at_last, at_last_or_memory, between, as_making}
use Rattle.kept_ledger.proofs.making.create_all.Goals as goal

pub returns-in_err-add_each-clause-crash : goal.returns-in_err-add_each-clause-crash
returns-in_err-add_each-clause-crash g c was =
    let by : IsMadeBy (state g.S.Store c.args.conn.now) (state g.S.Store c.begin.new.conn) (state g.S.Store c.make_events.new.conn) (state g.S.Store c.make_book.new.conn) (state g.S.Store c.add_terms.new.conn)
    (state g.S.Store c.add_each.new.conn) c.args.terms.now (stamped c.args.time c.args.events.now) = record {
      begins = c.begin.ensures.crash;
      begun = λ clean. c.in_ok-begin.ensures.making clean was;
      makes_events = c.make_events.ensures.crash;
      events = c.in_ok-make_events.ensures.made;
      makes_book = c.make_book.ensures.crash;
      book = c.in_ok-make_book.ensures.made;
      puts_terms = c.add_terms.ensures.crash;
      terms = c.in_ok-add_terms.ensures.added;
      adds = c.add_each.ensures.crash;
    } in
    let none = quiet (state g.S.Store c.args.conn.now) (state g.S.Store c.begin.new.conn) (state g.S.Store c.make_events.new.conn) (state g.S.Store c.make_book.new.conn) (state g.S.Store c.add_terms.new.conn)
    (state g.S.Store c.add_each.new.conn) c.args.terms.now (stamped c.args.time c.args.events.now) by in
    survives_weaker (state g.S.Store c.args.conn.now) (state g.S.Store c.add_each.new.conn) _ _ (λ _ db no. absurd no) none

pub returns-in_err-end-clause-crash : goal.returns-in_err-end-clause-crash
returns-in_err-end-clause-crash g c was =
    let by : IsMadeBy (state g.S.Store c.args.conn.now) (state g.S.Store c.begin.new.conn) (state g.S.Store c.make_events.new.conn) (state g.S.Store c.make_book.new.conn) (state g.S.Store c.add_terms.new.conn)
    (state g.S.Store c.add_each.new.conn) c.args.terms.now (stamped c.args.time c.args.events.now) = record {
      begins = c.begin.ensures.crash;
      begun = λ clean. c.in_ok-begin.ensures.making clean was;
      makes_events = c.make_events.ensures.crash;
      events = c.in_ok-make_events.ensures.made;
      makes_book = c.make_book.ensures.crash;
      book = c.in_ok-make_book.ensures.made;
      puts_terms = c.add_terms.ensures.crash;
      terms = c.in_ok-add_terms.ensures.added;
      adds = c.add_each.ensures.crash;
    } in
    all_committed (state g.S.Store c.args.conn.now) (state g.S.Store c.begin.new.conn) (state g.S.Store c.make_events.new.conn) (state g.S.Store c.make_book.new.conn) (state g.S.Store c.add_terms.new.conn)
    (state g.S.Store c.add_each.new.conn) c.args.terms.now (stamped c.args.time c.args.events.now) by (state g.S.Store c.end.new.conn) c.in_ok-add_each.ensures.added c.end.ensures.crash

pub returns-clause-crash : goal.returns-clause-crash
returns-clause-crash g c was =
    let by : IsMadeBy (state g.S.Store c.args.conn.now) (state g.S.Store c.begin.new.conn) (state g.S.Store c.make_events.new.conn) (state g.S.Store c.make_book.new.conn) (state g.S.Store c.add_terms.new.conn)
    (state g.S.Store c.add_each.new.conn) c.args.terms.now (stamped c.args.time c.args.events.now) = record {
      begins = c.begin.ensures.crash;
      begun = λ clean. c.in_ok-begin.ensures.making clean was;
      makes_events = c.make_events.ensures.crash;
      events = c.in_ok-make_events.ensures.made;
      makes_book = c.make_book.ensures.crash;
      book = c.in_ok-make_book.ensures.made;
      puts_terms = c.add_terms.ensures.crash;
      terms = c.in_ok-add_terms.ensures.added;
      adds = c.add_each.ensures.crash;
    } in
    all_committed (state g.S.Store c.args.conn.now) (state g.S.Store c.begin.new.conn) (state g.S.Store c.make_events.new.conn) (state g.S.Store c.make_book.new.conn) (state g.S.Store c.add_terms.new.conn)
    (state g.S.Store c.add_each.new.conn) c.args.terms.now (stamped c.args.time c.args.events.now) by (state g.S.Store c.end.new.conn) c.in_ok-add_each.ensures.added c.end.ensures.crash

pub returns-clause-made : goal.returns-clause-made
returns-clause-made g c clean was =
    let by : IsMadeBy (state g.S.Store c.args.conn.now) (state g.S.Store c.begin.new.conn) (state g.S.Store c.make_events.new.conn) (state g.S.Store c.make_book.new.conn) (state g.S.Store c.add_terms.new.conn)
    (state g.S.Store c.add_each.new.conn) c.args.terms.now (stamped c.args.time c.args.events.now) = record {
      begins = c.begin.ensures.crash;
      begun = λ clean. c.in_ok-begin.ensures.making clean was;
      makes_events = c.make_events.ensures.crash;
      events = c.in_ok-make_events.ensures.made;
      makes_book = c.make_book.ensures.crash;
      book = c.in_ok-make_book.ensures.made;
      puts_terms = c.add_terms.ensures.crash;
      terms = c.in_ok-add_terms.ensures.added;
      adds = c.add_each.ensures.crash;
    } in
    let mid : HasCleanDisk (state g.S.Store c.add_each.new.conn) = omega (arith, clean, c.end.ensures.crash.clean) in
    c.in_ok-end.ensures.ended clean c.args.terms.now (stamped c.args.time c.args.events.now) (all_added (state g.S.Store c.args.conn.now) (state g.S.Store c.begin.new.conn) (state g.S.Store c.make_events.new.conn) (state g.S.Store c.make_book.new.conn) (state g.S.Store c.add_terms.new.conn)
    (state g.S.Store c.add_each.new.conn) c.args.terms.now (stamped c.args.time c.args.events.now) by c.in_ok-add_each.ensures.added mid)

pub returns-in_err-begin-clause-reason : goal.returns-in_err-begin-clause-reason
returns-in_err-begin-clause-reason g c clean was =
    let old = c.args.conn.now in
    let s0 = c.begin.new.conn in
    let e = c.in_err-begin.field-0.0 in
    passed (HasReason g.S.Store making old s0) e c.from_residual.result c.from_residual.ensures.1
    (at_last g.S.Store making old old s0 begin_text [] e (inl (was.schema, refl)) (omega arith) (c.in_err-begin.ensures.runs clean))

pub returns-in_err-make_events-clause-reason : goal.returns-in_err-make_events-clause-reason
returns-in_err-make_events-clause-reason g c clean was =
    let old = c.args.conn.now in
    let s0 = c.begin.new.conn in
    let s1 = c.make_events.new.conn in
    let c0 : HasCleanDisk (state g.S.Store s0) = omega (arith, clean, c.make_events.ensures.crash.clean) in
    let i0 = c.in_ok-begin.ensures.making c0 was in
    let since : (state g.S.Store old).faults ≤ (state g.S.Store s0).faults = omega (arith, c.begin.ensures.crash.counts) in
    let e = c.in_err-make_events.field-0.0 in
    passed (HasReason g.S.Store making old s1) e c.from_residual-in_err-make_events.result c.from_residual-in_err-make_events.ensures.1
    (at_last g.S.Store making old s0 s1 make_events_text [] e (inr (inl (i0.schema_is, refl))) since (c.in_err-make_events.ensures.runs clean))

pub returns-in_err-make_book-clause-reason : goal.returns-in_err-make_book-clause-reason
returns-in_err-make_book-clause-reason g c clean was =
    let old = c.args.conn.now in
    let s0 = c.begin.new.conn in
    let s1 = c.make_events.new.conn in
    let s2 = c.make_book.new.conn in
    let c1 : HasCleanDisk (state g.S.Store s1) = omega (arith, clean, c.make_book.ensures.crash.clean) in
    let c0 : HasCleanDisk (state g.S.Store s0) = omega (arith, c1, c.make_events.ensures.crash.clean) in
    let i0 = c.in_ok-begin.ensures.making c0 was in
    let i1 = c.in_ok-make_events.ensures.made c1 i0 in
    let since : (state g.S.Store old).faults ≤ (state g.S.Store s1).faults = omega (arith, c.begin.ensures.crash.counts, c.make_events.ensures.crash.counts) in
    let e = c.in_err-make_book.field-0.0 in
    passed (HasReason g.S.Store making old s2) e c.from_residual-in_err-make_book.result c.from_residual-in_err-make_book.ensures.1
    (at_last g.S.Store making old s1 s2 make_book_text [] e (inr (inr (inl (i1.schema_is, refl)))) since (c.in_err-make_book.ensures.runs clean))

pub returns-in_err-add_terms-clause-reason : goal.returns-in_err-add_terms-clause-reason
returns-in_err-add_terms-clause-reason g c clean was =
    let old = c.args.conn.now in
    let s0 = c.begin.new.conn in
    let s1 = c.make_events.new.conn in
    let s2 = c.make_book.new.conn in
    let s3 = c.add_terms.new.conn in
    let c2 : HasCleanDisk (state g.S.Store s2) = omega (arith, clean, c.add_terms.ensures.crash.clean) in
    let c1 : HasCleanDisk (state g.S.Store s1) = omega (arith, c2, c.make_book.ensures.crash.clean) in
    let c0 : HasCleanDisk (state g.S.Store s0) = omega (arith, c1, c.make_events.ensures.crash.clean) in
    let i0 = c.in_ok-begin.ensures.making c0 was in
    let i1 = c.in_ok-make_events.ensures.made c1 i0 in
    let i2 = c.in_ok-make_book.ensures.made c2 i1 in
    let since : (state g.S.Store old).faults ≤ (state g.S.Store s2).faults = omega (arith, c.begin.ensures.crash.counts, c.make_events.ensures.crash.counts, c.make_book.ensures.crash.counts) in
    let e = c.in_err-add_terms.field-0.0 in
    passed (HasReason g.S.Store making old s3) e c.from_residual-in_err-add_terms.result c.from_residual-in_err-add_terms.ensures.1
    (at_last_or_memory g.S.Store making old s2 s3 add_terms_text e (inr (inr (inr (inl (i2.schema_is, refl))))) since (c.in_err-add_terms.ensures.reason clean))

pub returns-in_err-add_each-clause-reason : goal.returns-in_err-add_each-clause-reason
returns-in_err-add_each-clause-reason g c clean was =
    let old = c.args.conn.now in
    let s0 = c.begin.new.conn in
    let s1 = c.make_events.new.conn in
    let s2 = c.make_book.new.conn in
    let s3 = c.add_terms.new.conn in
    let s4 = c.add_each.new.conn in
    let c3 : HasCleanDisk (state g.S.Store s3) = omega (arith, clean, c.add_each.ensures.crash.clean) in
    let c2 : HasCleanDisk (state g.S.Store s2) = omega (arith, c3, c.add_terms.ensures.crash.clean) in
    let c1 : HasCleanDisk (state g.S.Store s1) = omega (arith, c2, c.make_book.ensures.crash.clean) in
    let c0 : HasCleanDisk (state g.S.Store s0) = omega (arith, c1, c.make_events.ensures.crash.clean) in
    let i0 = c.in_ok-begin.ensures.making c0 was in
    let i1 = c.in_ok-make_events.ensures.made c1 i0 in
    let i2 = c.in_ok-make_book.ensures.made c2 i1 in
    let i3 = c.in_ok-add_terms.ensures.added c3 i2 in
    let since : (state g.S.Store old).faults ≤ (state g.S.Store s3).faults = omega (arith, c.begin.ensures.crash.counts, c.make_events.ensures.crash.counts, c.make_book.ensures.crash.counts, c.add_terms.ensures.crash.counts) in
    let e = c.in_err-add_each.field-0.0 in
    passed (HasReason g.S.Store making old s4) e c.from_residual-in_err-add_each.result c.from_residual-in_err-add_each.ensures.1
    (between g.S.Store making old s3 s4 s4 e since (omega arith) (as_making g.S.Store s3 s4 e (c.in_err-add_each.ensures.reason clean c.args.terms.now [] i3)))

pub returns-in_err-end-clause-reason : goal.returns-in_err-end-clause-reason
returns-in_err-end-clause-reason g c clean was =
    let old = c.args.conn.now in
    let s0 = c.begin.new.conn in
    let s1 = c.make_events.new.conn in
    let s2 = c.make_book.new.conn in
    let s3 = c.add_terms.new.conn in
    let s4 = c.add_each.new.conn in
    let s5 = c.end.new.conn in
    let c4 : HasCleanDisk (state g.S.Store s4) = omega (arith, clean, c.end.ensures.crash.clean) in
    let c3 : HasCleanDisk (state g.S.Store s3) = omega (arith, c4, c.add_each.ensures.crash.clean) in
    let c2 : HasCleanDisk (state g.S.Store s2) = omega (arith, c3, c.add_terms.ensures.crash.clean) in
    let c1 : HasCleanDisk (state g.S.Store s1) = omega (arith, c2, c.make_book.ensures.crash.clean) in
    let c0 : HasCleanDisk (state g.S.Store s0) = omega (arith, c1, c.make_events.ensures.crash.clean) in
    let i0 = c.in_ok-begin.ensures.making c0 was in
    let i1 = c.in_ok-make_events.ensures.made c1 i0 in
    let i2 = c.in_ok-make_book.ensures.made c2 i1 in
    let i3 = c.in_ok-add_terms.ensures.added c3 i2 in
    let i4 = c.in_ok-add_each.ensures.added c4 c.args.terms.now [] i3 in
    let since : (state g.S.Store old).faults ≤ (state g.S.Store s4).faults = omega (arith, c.begin.ensures.crash.counts, c.make_events.ensures.crash.counts, c.make_book.ensures.crash.counts, c.add_terms.ensures.crash.counts, c.add_each.ensures.crash.counts) in
    let e = c.in_err-end.field-0.0 in
    passed (HasReason g.S.Store making old s5) e c.from_residual-in_err-end.result c.from_residual-in_err-end.ensures.1
    (at_last g.S.Store making old s4 s5 end_text [] e (inr (inr (inr (inr (inr (inl (i4.schema, refl))))))) since (c.in_err-end.ensures.runs clean))
