use Rattle.std.proofs.lemmas.Result.{err_from_is_err_and}
use Rattle.kept_log.proofs.LastEvents.{next_timed, one_read, all_read}
use Rattle.kept_log.proofs.timed.timed_events.Goals as goal

pub returns-in_err-timed_at-clause-back : goal.returns-in_err-timed_at-clause-back
returns-in_err-timed_at-clause-back c es timed =
    let was = c.loop-row in
    let n = next_timed es was.events.items was.rest.now c.in-Some.row.now c.in-Some.behind.now c.in-Some.ensures.cases.0 (was.invariant es timed) in
    let p = err_from_is_err_and c.from_residual-in_err-timed_at.result c.from_residual-in_err-timed_at.ensures.1 in
    rw (p.1, p.2) (c.in_err-timed_at.ensures.back n.entry n.timed)

pub loop-row-preserved : goal.loop-row-preserved
loop-row-preserved c = λ es timed.
    let was = c.loop-row in
    let n = next_timed es was.events.items was.rest.now c.in-Some.row.now c.in-Some.behind.now c.in-Some.ensures.cases.0 (was.invariant es timed) in
    one_read es was.events.items c.push.new.list.items c.in-Some.row.now c.in-Some.behind.now n c.in_ok-timed_at.field-0 (c.in_ok-timed_at.ensures.back n.entry n.timed) c.in_ok-push.ensures

pub returns-clause-back : goal.returns-clause-back
returns-clause-back c es timed = all_read es c.loop-row.events.items c.loop-row.rest.now c.in_default.ensures.cases (c.loop-row.invariant es timed)
