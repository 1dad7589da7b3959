use Rattle.std.proofs.Common.{length, sym, ◌∙◌, ap, deque_capacity}
use Rattle.journal_moments.specs.Held.{Held, held}
use Rattle.journal_moments.proofs.NewestLemmas.{length-moments}
use Rattle.journal_timeline.proofs.timeline.Timeline.moment_count.Goals as goal

pub returns : goal.returns
returns g c =
    let i = c.self.inside in
    let a : Held = held i.world i.records.items (deque_capacity i.records) i.moments.items i.standing i.gone in
    sym (length-moments a ∙ c.self.invariant.counts) ∙ ap (λ v. length v.pasts.moments) c.self.view_is
