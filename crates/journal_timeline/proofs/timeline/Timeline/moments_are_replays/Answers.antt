use Rattle.std.proofs.Common.{subst, deque_capacity}
use Rattle.journal_moments.specs.Held.{held}
use Rattle.journal_moments.specs.Replayed.{AllReplayed}
use Rattle.journal_moments.proofs.ReplayedLemmas.{replayed_moments, replayed_undone}
use Rattle.journal_timeline.proofs.timeline.Timeline.moments_are_replays.Goals as goal

pub returns-clause-moments : goal.returns-clause-moments
returns-clause-moments g c =
    let i = c.self.inside in
    subst (λ v. AllReplayed v.pasts.base v.pasts.moments) c.self.view_is (replayed_moments (held i.world i.records.items (deque_capacity i.records) i.moments.items i.standing i.gone) c.self.invariant)

pub returns-clause-undone : goal.returns-clause-undone
returns-clause-undone g c =
    let i = c.self.inside in
    subst (λ v. AllReplayed v.pasts.base v.pasts.undone) c.self.view_is (replayed_undone (held i.world i.records.items (deque_capacity i.records) i.moments.items i.standing i.gone) c.self.invariant)
