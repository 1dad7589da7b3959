use Rattle.std.proofs.Common.{rules, ◌≡◌, ◌+◌, length, refl, subst, arith}
use Rattle.thread_lock.specs.Seats.{calls_left}
use Rattle.bt_workers.specs.Gates.{Pass, passes, unmade, AreTold}
use Rattle.bt_workers.proofs.Serving.{serves_on, serves_spent}
use Rattle.bt_workers.proofs.Telling.{told_one, told_on}
use Rattle.bt_workers.proofs.serve.serve.Goals as goal

pub returns-in-Ok-clause-served : goal.returns-in-Ok-clause-served
returns-in-Ok-clause-served g c =
    let goes = c.go_on.ensures.goes in
    let end = c.go_on.result in
    let called = c.in-Ok.ensures.called in
    let served = serves_on c.args.seat.now c.args.it.frame c.in-Ok.picked c.start.new.seat goes.0 end c.go_on.new.seat called goes.1 goes.2 in
    let gate = c.args.gate.now in
    let number = c.args.it.number in
    let one_more : length served.0 + unmade end ≡ 1 + (length goes.0 + unmade end) = omega (arith, served.1.fewer, goes.1.fewer, called.one_less) in
    (served.0, served.1, served.2, told_on g.G.Gate.told number 1 1 2 (length goes.0 + unmade end) (length served.0 + unmade end) gate c.pass.new.self c.go_on.new.gate refl one_more (told_one g.G.Gate.told gate (Pass number 1) c.pass.new.self c.pass.ensures) goes.3)

pub returns-in-Err-clause-served : goal.returns-in-Err-clause-served
returns-in-Err-clause-served g c =
    let none : calls_left c.args.seat.now ≡ 0 = search rules in
    let served = serves_spent c.args.seat.now c.args.it.frame c.start.new.seat c.in-Err.ensures.unchanged none in
    let gate = c.args.gate.now in
    let number = c.args.it.number in
    let one : 1 ≡ length served.0 + 1 = omega (arith, served.1.fewer, none) in
    (served.0, served.1, served.2, subst (λ n. AreTold g.G.Gate.told gate (passes number 1 n) c.pass.new.self) one (told_one g.G.Gate.told gate (Pass number 1) c.pass.new.self c.pass.ensures))
