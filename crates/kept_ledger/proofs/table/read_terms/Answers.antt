use Rattle.std.proofs.Common.{◌≡◌, [], inl, subst, sym, ap}
use Rattle.sqlite.specs.Held.{state}
use Rattle.sqlite.specs.State.{HasCleanDisk}
use Rattle.kept_ledger.specs.Faults.{IsSqlFault}
use Rattle.kept_ledger.specs.Table.{ledger_schema}
use Rattle.kept_ledger.specs.TermsRow.{terms_shown, terms_in, TellsAs, ReadsAs}
use Rattle.kept_ledger.proofs.Texts.{read_terms_text, read_terms_plain, bare_terms}
use Rattle.kept_ledger.proofs.Statements.{query_faults}
use Rattle.kept_ledger.proofs.Reading.{terms_read, reads_ledger, terms_ok, terms_err, read_as, terms_sql, answered, unanswered}
use Rattle.kept_ledger.proofs.table.read_terms.Goals as goal

pub returns-in-Ok : goal.returns-in-Ok
returns-in-Ok g c =
    let old = state g.S.Store c.args.conn.now in
    let new = state g.S.Store c.query_all.new.self in
    let rows = c.in-Ok.rows.items in
    let r = c.terms_shown.result in
    let told : TellsAs (terms_shown rows) r = subst (λ wanted. TellsAs wanted r) (ap terms_shown c.as_slice.ensures.value) c.terms_shown.ensures in
    let reads : HasCleanDisk new → old.now.schema ≡ ledger_schema → ReadsAs (terms_in (old.now.trees 1)) r = λ clean has. read_as (terms_in (old.now.trees 1)) r (subst (λ wanted. TellsAs wanted r) (terms_read old new rows has (c.in-Ok.ensures.ok clean)) told) in
    record {
      row = reads;
      terms = λ clean t events was. terms_ok r t (reads_ledger old t was.entries r was.ledger (reads clean was.ledger.schema));
      reads =
          answered read_terms_text [] read_terms_plain old new r rows bare_terms c.in-Ok.ensures.ok (λ clean t es was. terms_err r t (reads_ledger old t es r was (reads clean was.schema)))
          (terms_sql read_terms_text old new rows r told) c.query_all.ensures.survives;
    }

pub returns-in-Err : goal.returns-in-Err
returns-in-Err g c =
    let old = state g.S.Store c.args.conn.now in
    let new = state g.S.Store c.query_all.new.self in
    record {
      row = λ clean has. inl (subst IsSqlFault (sym c.query_fault.ensures) (query_faults read_terms_text [] old new ledger_schema c.in-Err.error has read_terms_plain (c.in-Err.ensures.err clean)));
      terms = λ clean t events was. tt;
      reads = unanswered read_terms_text [] read_terms_plain old new c.in-Err.error c.query_fault.result c.query_fault.ensures c.in-Err.ensures.err c.query_all.ensures.survives;
    }
