use Rattle.std.proofs.Common.{arith}
use Rattle.std.proofs.lemmas.Result.{err_from_is_err_and}
use Rattle.kept_ledger.proofs.ReadRows.{next_of, one_more, all_of, shown_more, stops_here, all_shown}
use Rattle.kept_ledger.proofs.event_at.events_at.Goals as goal

pub returns-in_err-event_at-clause-back : goal.returns-in_err-event_at-clause-back
returns-in_err-event_at-clause-back c es kept is =
    let was = c.loop-row in
    let n = next_of es was.events.items was.rest.now c.in-Some.row.now c.in-Some.behind.now was.place c.in-Some.ensures.cases.0 (was.invariant.read es kept is) in
    let p = err_from_is_err_and c.from_residual-in_err-event_at.result c.from_residual-in_err-event_at.ensures.1 in
    rw (p.1, p.2) (c.in_err-event_at.ensures.back n.entry n.kept n.row_is)

pub returns-in_err-event_at-clause-shows : goal.returns-in_err-event_at-clause-shows
returns-in_err-event_at-clause-shows c =
    let was = c.loop-row in
    let p = err_from_is_err_and c.from_residual-in_err-event_at.result c.from_residual-in_err-event_at.ensures.1 in
    rw (p.1, p.2) (stops_here c.args.rows.now was.rest.now c.in-Some.behind.now was.events.items c.in-Some.row.now was.place c.in-Some.ensures.cases.0 was.invariant.shown _ c.in_err-event_at.ensures.shows)

pub loop-row-preserved : goal.loop-row-preserved
loop-row-preserved c =
    let was = c.loop-row in
    record {
      read = λ es kept is.
          let n = next_of es was.events.items was.rest.now c.in-Some.row.now c.in-Some.behind.now was.place c.in-Some.ensures.cases.0 (was.invariant.read es kept is) in
          one_more es was.events.items c.push.new.events.items c.in-Some.row.now c.in-Some.behind.now was.place n c.in_ok-event_at.field-0 (c.in_ok-event_at.ensures.back n.entry n.kept n.row_is)
          c.in_ok-push.ensures;
      shown =
          shown_more c.args.rows.now was.rest.now c.in-Some.behind.now was.events.items c.in-Some.row.now was.place c.in-Some.ensures.cases.0 was.invariant.shown
          c.push.new.events.items c.in_ok-event_at.field-0 c.in_ok-event_at.ensures.shows c.in_ok-push.ensures;
      within = omega (arith, was.invariant.within, c.in-Some.ensures.cases.1);
    }

pub returns-clause-back : goal.returns-clause-back
returns-clause-back c es kept is = all_of es c.loop-row.events.items c.loop-row.rest.now c.loop-row.place c.in_default.ensures.cases (c.loop-row.invariant.read es kept is)

pub returns-clause-shows : goal.returns-clause-shows
returns-clause-shows c = all_shown c.args.rows.now c.loop-row.rest.now c.loop-row.events.items c.loop-row.place c.in_default.ensures.cases c.loop-row.invariant.shown
