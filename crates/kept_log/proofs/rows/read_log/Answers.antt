use Rattle.std.proofs.Common.{[]}
use Rattle.sqlite.specs.Held.{state}
use Rattle.kept_ledger.specs.Table.{read_terms_text}
use Rattle.kept_log.proofs.LogLemmas.{refused, read_then}
use Rattle.kept_log.proofs.rows.read_log.Goals as goal

pub returns-in-Ok : goal.returns-in-Ok
returns-in-Ok g c =
    read_then read_terms_text [] (state g.S.Store c.args.conn.now) (state g.S.Store c.read_terms.new.conn) (state g.S.Store c.read_rows.new.conn) c.args.most _ c.read_rows.result c.in-Ok.ensures.reads c.read_rows.ensures

pub returns-in-Err : goal.returns-in-Err
returns-in-Err g c = refused read_terms_text [] (state g.S.Store c.args.conn.now) (state g.S.Store c.read_terms.new.conn) c.args.most c.in-Err.fault c.in-Err.ensures.reads
