use Rattle.std.proofs.Common.{◌≡◌, ◌+◌, ◌-◌, length, ap, arith}
use Rattle.thread_lock.specs.Seats.{calls_left}
use Rattle.bt_workers.specs.Gates.{unmade}
use Rattle.bt_workers.proofs.Going.{onward_first, onward_more, onward_last}
use Rattle.bt_workers.proofs.Telling.{told_on, told_none}
use Rattle.bt_workers.proofs.serve.finish.Goals as goal

pub calls-init : goal.calls-init
calls-init g c = (c.requires, omega (arith, c.args.seat.now.few), onward_first _ _, omega arith, told_none g.G.Gate.told c.args.frame 2 c.args.gate.now (calls_left c.args.seat.now))

pub calls-preserved : goal.calls-preserved
calls-preserved g c =
    let does = c.in-None.ensures.steps in
    let less = does.4.one_less in
    let before = c.calls.invariant in
    let fewer = before.2.1.fewer in
    let first = calls_left c.args.seat.now in (
      c.step.ensures.seat,
      omega (arith, less, before.1),
      onward_more _ _ _ _ _ _ before.2 does,
      omega (arith, less, before.3),
      told_on g.G.Gate.told c.args.frame 2 (first - calls_left c.calls.seat) c.calls.nth 1 (first - calls_left c.step.new.seat) c.args.gate.now c.calls.gate c.step.new.gate
          (omega (arith, fewer, before.3)) (omega (arith, fewer, less)) before.4 c.in-None.ensures.told,
    )

pub returns-in-Some-clause-ran : goal.returns-in-Some-clause-ran
returns-in-Some-clause-ran g c =
    let does = c.in-Some.ensures.steps in
    let before = c.calls.invariant in
    let fewer = before.2.1.fewer in
    let end = c.in-Some.end in
    let first = calls_left c.args.seat.now in
    let ran = onward_last c.args.seat.now c.args.run.now c.calls.seat c.calls.run end c.step.new.seat c.step.new.run before.2 does in
    let same : calls_left c.step.new.seat ≡ calls_left c.calls.seat = ap calls_left does.0 in (
      ran.0,
      ran.1,
      ran.2,
      told_on g.G.Gate.told c.args.frame 2 (first - calls_left c.calls.seat) c.calls.nth (unmade end) (length ran.0 + unmade end) c.args.gate.now c.calls.gate c.step.new.gate
          (omega (arith, fewer, before.3)) (omega (arith, fewer, same, ran.1.fewer)) before.4 c.in-Some.ensures.told,
    )
