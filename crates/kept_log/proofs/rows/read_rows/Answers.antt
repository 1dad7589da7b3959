use Rattle.sqlite.specs.Held.{state}
use Rattle.kept_log.specs.Timed.{last_text, last_params}
use Rattle.kept_log.proofs.LogLemmas.{refused, read_once}
use Rattle.kept_log.proofs.rows.read_rows.Goals as goal

pub returns-in-Ok : goal.returns-in-Ok
returns-in-Ok g c =
    read_once last_text (last_params c.args.most) (state g.S.Store c.args.conn.now) (state g.S.Store c.read_last.new.conn) c.args.most c.in-Ok.events c.rows_of.result c.in-Ok.ensures.reads c.in-Ok.ensures.events
    c.rows_of.ensures.logged c.rows_of.ensures.sql

pub returns-in-Err : goal.returns-in-Err
returns-in-Err g c = refused last_text (last_params c.args.most) (state g.S.Store c.args.conn.now) (state g.S.Store c.read_last.new.conn) c.args.most c.in-Err.fault c.in-Err.ensures.reads
