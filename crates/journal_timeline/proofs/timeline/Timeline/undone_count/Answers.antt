use Rattle.std.proofs.Common.{length, ap, arith, deque_capacity}
use Rattle.journal_moments.specs.Held.{Held, held}
use Rattle.journal_moments.proofs.NewestLemmas.{length-undone}
use Rattle.journal_moments.proofs.StandingLemmas.{count_undone}
use Rattle.journal_moments.specs.Lowered.{lowered}
use Rattle.journal_timeline.proofs.timeline.Timeline.undone_count.Goals as goal

pub returns : goal.returns
returns g c =
    let i = c.self.inside in
    let a : Held = held i.world i.records.items (deque_capacity i.records) i.moments.items i.standing i.gone in
    omega (arith, c.len.ensures, i.moments.ok.0, count_undone (lowered i.gone) i.standing i.moments.items c.self.invariant.counts, length-undone a, ap (λ v. length v.pasts.undone) c.self.view_is)
