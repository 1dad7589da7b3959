use Rattle.std.proofs.Common.{sym, subst}
use Rattle.bt_desk.specs.Seats.{IsSeatAt}
use Rattle.bench_desk.proofs.waits.call_often.Goals.{else-loop-test, then-loop-test+then-not-is_noted}
use Rattle.bench_desk.proofs.waits.call_often.Goals as goal

pub returns : goal.returns
returns g c = elim c.loop-test.branch [
  | else-loop-test w ↦ subst (λ seat. IsSeatAt c.args.desk.now seat) (sym w.seat-is) c.loop.invariant
  | then-loop-test+then-not-is_noted w ↦ subst (λ seat. IsSeatAt c.args.desk.now seat) (sym w.seat-is) w.time_call-took.ensures
]
