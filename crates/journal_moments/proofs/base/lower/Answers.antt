use Rattle.std.proofs.Common.{arith}
use Rattle.journal_moments.proofs.LoweredLemmas.{lowered_more, lowered_rest, lowered_all}
use Rattle.journal_moments.proofs.base.lower.Goals as goal

pub loop-moment-preserved : goal.loop-moment-preserved
loop-moment-preserved c =
    let old = c.args.moments.now in
    let new = c.loop-moment.moments in
    record {
      lowered = lowered_more c.args.count c.loop-moment.moment-index old new c.moment-item.result c.lower.new.self (omega arith) (c.loop-moment.auto.moments) c.loop-moment.invariant.rest c.loop-moment.invariant.lowered c.lower.ensures;
      rest = lowered_rest c.loop-moment.moment-index old new c.lower.new.self c.loop-moment.invariant.rest;
    }

pub returns : goal.returns
returns c =
    lowered_all c.args.count c.loop-moment.moment-index c.args.moments.now c.loop-moment.moments (omega (arith, c.loop-moment-test.false, c.loop-moment.auto.moments)) c.loop-moment.auto.moments c.loop-moment.invariant.lowered
