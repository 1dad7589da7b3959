use Rattle.std.proofs.Common.{◌≡◌, List, reverse, ◌∙◌}
use Rattle.std.specs.Prelude.{MatchResult}
use Rattle.sqlite.specs.Held.{state}
use Rattle.sqlite.specs.State.{HasCleanDisk}
use Rattle.kept_ledger.specs.Faults.{IsSqlFault}
use Rattle.kept_ledger.specs.TermsView.{PlainTerms}
use Rattle.kept_ledger.specs.Ledger.{Entry, IsLedgerOf}
use Rattle.kept_log.specs.Timed.{entries_of, last_text, last_params, last_of}
use Rattle.kept_log.proofs.LastText.{last_is}
use Rattle.kept_ledger.proofs.Reading.{read_ok, read_err, answered, unanswered}
use Rattle.kept_log.proofs.LastEvents.{last_shows, last_timed, memory_sql}
use Rattle.kept_log.proofs.timed.read_last.Goals as goal

pub returns-in-Ok : goal.returns-in-Ok
returns-in-Ok g c =
    let old = state g.S.Store c.args.conn.now in
    let new = state g.S.Store c.ask_last.new.conn in
    let most = c.args.most in
    let ps = last_params most in
    let rows = c.in-Ok.rows.items in
    let r = c.timed_events.result in
    let back : c.as_slice.result.now ≡ reverse rows = c.as_slice.ensures.value ∙ c.turn.ensures in
    let read : HasCleanDisk new → (t : PlainTerms) (es : List Entry) → IsLedgerOf t es old → MatchResult r (λ read. entries_of read.items ≡ last_of most es) IsSqlFault = λ clean t es was.
    c.timed_events.ensures.back (last_of most es)
    (last_timed es most rows c.as_slice.result.now was.held.kept (last_shows t old new es most rows was.schema was.held (c.in-Ok.ensures.ok clean)) back) in
    record {
      events = λ clean t es was. read_ok r _ (read clean t es was);
      reads =
          answered last_text ps last_is.2 old new r rows last_is.3 c.in-Ok.ensures.ok (λ clean t es was. read_err r _ (read clean t es was))
          (memory_sql last_text ps old new r c.timed_events.ensures.memory) c.ask_last.ensures.survives;
    }

pub returns-in-Err : goal.returns-in-Err
returns-in-Err g c =
    let old = state g.S.Store c.args.conn.now in
    let new = state g.S.Store c.ask_last.new.conn in
    record {
      events = λ clean t es was. tt;
      reads = unanswered last_text (last_params c.args.most) last_is.2 old new c.in-Err.error c.query_fault.result c.query_fault.ensures c.in-Err.ensures.err c.ask_last.ensures.survives;
    }
