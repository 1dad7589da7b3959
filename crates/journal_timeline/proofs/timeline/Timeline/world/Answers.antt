use Rattle.std.proofs.Common.{sym, ◌∙◌, ap, deque_capacity}
use Rattle.journal_model.specs.Plain.{now}
use Rattle.journal_moments.specs.Held.{held}
use Rattle.journal_moments.proofs.NewestLemmas.{now-pasts_of}
use Rattle.journal_timeline.proofs.timeline.Timeline.world.Goals as goal

pub returns : goal.returns
returns g c =
    let i = c.self.inside in
    sym (now-pasts_of (held i.world i.records.items (deque_capacity i.records) i.moments.items i.standing i.gone) c.self.invariant) ∙ ap (λ v. now v.pasts) c.self.view_is
