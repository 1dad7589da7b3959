use Rattle.std.proofs.Common.{IfOk, IfErr, subst}
use Rattle.sqlite.specs.Held.{state}
use Rattle.sqlite.specs.State.{HasCleanDisk, Survives, CommitsShowing, FailsToQuery, Shown}
use Rattle.kept_log.specs.Timed.{last_text}
use Rattle.kept_log.proofs.timed.ask_last.Goals as goal

pub returns : goal.returns
returns g c =
    let old = state g.S.Store c.args.conn.now in
    let new = state g.S.Store c.query_all.new.self in
    let r = c.query_all.result in
    let ps = c.last_params.ensures in
    record {
      ok = subst (λ p. HasCleanDisk new → IfOk r (λ rows. Shown last_text p old new rows.items)) ps c.query_all.ensures.ok;
      err = subst (λ p. HasCleanDisk new → IfErr r (FailsToQuery last_text p old new)) ps c.query_all.ensures.err;
      survives = subst (λ p. Survives old new (CommitsShowing last_text p old)) ps c.query_all.ensures.survives;
    }
