use Rattle.thread_live.proofs.Beside.{beside}
use Rattle.thread_live.proofs.crew.serve_beside.Goals as goal

pub returns-clause-served : goal.returns-clause-served
returns-clause-served g c =
    beside c.args.desk.now (g.C.Console.talks _ c.args.console c.args.rt.now c.args.desk.now c.args.traffic.now) c.args.traffic.now c.join-crew.result.1.1.1 c.args.seat
    c.split-crew.new.seat c.split-crew.result c.split-keeper.new.seat c.split-keeper.result c.join-crew.result.0 c.join-crew.result.1.0 c.join-crew.result.1.1.0 c.join.new.seat c.join-2.new.seat
    (record { same = c.split-crew.ensures.seen.0; other_same = c.split-crew.ensures.seen.1; same_numbers = c.split-crew.ensures.numbers.0 })
    (record { same = c.split-keeper.ensures.seen.0; other_same = c.split-keeper.ensures.seen.1; same_numbers = c.split-keeper.ensures.numbers.0 })
    c.join-crew.ensures.first.1 c.join-crew.ensures.second.1 c.join-crew.ensures.second.3 c.join.ensures.heard c.join-2.ensures.heard
