use Rattle.std.proofs.Common.{◌≡◌, [], IfOk, subst, sym, ◌∙◌}
use Rattle.sqlite.specs.Held.{state}
use Rattle.kept_ledger.proofs.Texts.{read_text, read_plain, bare_events}
use Rattle.kept_ledger.proofs.Statements.{query_faults}
use Rattle.kept_ledger.specs.Faults.{IsSqlFault}
use Rattle.kept_ledger.specs.Table.{ledger_schema}
use Rattle.kept_ledger.proofs.Reading.{ShowsRows, read_shows, read_ok, read_err, in_order, reads_rows, stopped_rows, rows_sql, answered, unanswered}
use Rattle.kept_ledger.proofs.table.read.Goals as goal

pub returns-in-Ok : goal.returns-in-Ok
returns-in-Ok g c =
    let old = state g.S.Store c.args.conn.now in
    let new = state g.S.Store c.query_all.new.self in
    let rows = c.in-Ok.rows.items in
    let r = c.events_at.result in
    let shows : ShowsRows rows r = subst (λ xs. ShowsRows xs r) c.as_slice.ensures.value c.events_at.ensures.shows in
    record {
      rows = λ clean has. reads_rows (old.now.trees 0) rows r (in_order old new rows has (c.in-Ok.ensures.ok clean)) shows;
      events = λ clean t events was.
          subst (λ es. IfOk r (λ read. read.items ≡ es)) was.are
          (read_ok r _ (c.events_at.ensures.back was.entries was.ledger.held.kept (c.as_slice.ensures.value ∙ read_shows t old new was.entries rows was.ledger.schema was.ledger.held (c.in-Ok.ensures.ok clean))));
      reads =
          answered read_text [] read_plain old new r rows bare_events c.in-Ok.ensures.ok
          (λ clean t es was. read_err r _ (c.events_at.ensures.back es was.held.kept (c.as_slice.ensures.value ∙ read_shows t old new es rows was.schema was.held (c.in-Ok.ensures.ok clean))))
          (rows_sql read_text old new rows r shows) c.query_all.ensures.survives;
    }

pub returns-in-Err : goal.returns-in-Err
returns-in-Err g c =
    let old = state g.S.Store c.args.conn.now in
    let new = state g.S.Store c.query_all.new.self in
    record {
      rows = λ clean has. stopped_rows (old.now.trees 0) c.query_fault.result
          (subst IsSqlFault (sym c.query_fault.ensures) (query_faults read_text [] old new ledger_schema c.in-Err.error has read_plain (c.in-Err.ensures.err clean)));
      events = λ clean t events was. tt;
      reads = unanswered read_text [] read_plain old new c.in-Err.error c.query_fault.result c.query_fault.ensures c.in-Err.ensures.err c.query_all.ensures.survives;
    }
