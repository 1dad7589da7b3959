use Rattle.thread_live.proofs.Manning.{man_one, man_halves}
use Rattle.thread_live.proofs.crew.+fn-man-join+arg2+fn-man-join+arg3+man.Goals as goal

pub returns-then-count-eq1-clause-mans : goal.returns-then-count-eq1-clause-mans
returns-then-count-eq1-clause-mans g t c = man_one c.args.traffic.now c.args.first c.args.count c.args.seat c.work.result c.if-count-eq1.true c.work.ensures.works

pub returns-clause-mans : goal.returns-clause-mans
returns-clause-mans g t c =
    man_halves c.args.traffic.now c.args.first c.args.count c.args.seat c.split-other.new.seat c.split-other.result c.join-other.result.1 c.join-other.result.0 c.join.new.seat
    (record { same = c.split-other.ensures.seen.0; other_same = c.split-other.ensures.seen.1; same_numbers = c.split-other.ensures.numbers.0 })
    c.join-other.ensures.second.1 c.join-other.ensures.first.1 c.join.ensures.heard
