use Rattle.std.proofs.Common.{◌≡◌, IfOk, map as each, sym, ◌∙◌, ap, subst, deque_capacity}
use Rattle.journal_model.specs.Listed.{row_of}
use Rattle.journal_model.specs.Plain.{newest_force}
use Rattle.journal_moments.specs.Held.{Held, held}
use Rattle.journal_moments.proofs.NewestLemmas.{force-pasts_of}
use Rattle.journal_timeline.proofs.timeline.Timeline.change_rows.Goals as goal

pub returns : goal.returns
returns g c =
    let i = c.self.inside in
    let a : Held = held i.world i.records.items (deque_capacity i.records) i.moments.items i.standing i.gone in
    subst (λ es. IfOk c.change_rows.result (λ rows. rows.items ≡ each row_of es))
    (sym (force-pasts_of a c.self.invariant) ∙ ap (λ v. newest_force v.pasts.moments) c.self.view_is) c.change_rows.ensures
