use Rattle.std.proofs.Common.{refl, ap, map as each, deque_capacity}
use Rattle.journal_moments.specs.Held.{held}
use Rattle.journal_moments.specs.Lowered.{lowered}
use Rattle.journal_timeline.proofs.OpenLemmas.{pasts_of-new}
use Rattle.journal_timeline.proofs.timeline.Timeline.new.Goals as goal

pub returns-clause-pasts : goal.returns-clause-pasts
returns-clause-pasts g c = pasts_of-new (held c.args.world c.new.result.items (deque_capacity c.new.result) c.new-2.result.items 0 c.none.result) c.new.ensures.items refl (ap (each (lowered c.none.result)) c.new-2.ensures.items)
