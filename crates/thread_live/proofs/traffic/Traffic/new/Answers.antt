use Rattle.thread_live.proofs.Short.{all_short}
use Rattle.thread_live.proofs.traffic.Traffic.new.Goals as goal

pub invariant_of-result : goal.invariant_of-result
invariant_of-result c = record { short = all_short c.args.frames.items c.requires.good; manned = c.requires.manned }
