use Rattle.std.proofs.Common.{ℕ, map as each, take, reverse, ◌∙◌, ap, deque_capacity}
use Rattle.journal_moments.proofs.TakenOutLemmas.{rows_told}
use Rattle.journal_timeline.proofs.timeline.Timeline.moment_rows.Goals as goal

pub returns : goal.returns
returns g c =
    let i = c.self.inside in
    c.truncate.ensures.items
    ∙ ap (take i.standing) c.in_ok-rows.ensures
    ∙ rows_told i.world i.records.items (deque_capacity i.records) i.moments.items i.standing i.gone
    ∙ ap (λ v. reverse (each (λ m. (m.serial, m.out)) v.pasts.moments)) c.self.view_is
