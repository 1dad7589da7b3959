use Rattle.std.proofs.Common.{◌≡◌, IfOk, sym, ◌∙◌, ap, subst, deque_capacity}
use Rattle.journal_model.specs.Plain.{newest_force}
use Rattle.journal_moments.specs.Held.{Held, held}
use Rattle.journal_moments.proofs.NewestLemmas.{force-pasts_of}
use Rattle.journal_timeline.specs.Serials.{SerialsRise, change_in}
use Rattle.journal_timeline.proofs.timeline.Timeline.change_of.Goals as goal

pub change_of-requires : goal.change_of-requires
change_of-requires g c =
    let i = c.self.inside in
    let a : Held = held i.world i.records.items (deque_capacity i.records) i.moments.items i.standing i.gone in
    subst SerialsRise (sym (ap (λ v. newest_force v.pasts.moments) c.self.view_is) ∙ force-pasts_of a c.self.invariant) c.requires

pub returns : goal.returns
returns g c =
    let i = c.self.inside in
    let a : Held = held i.world i.records.items (deque_capacity i.records) i.moments.items i.standing i.gone in
    subst (λ es. IfOk c.change_of.result (λ change. change ≡ change_in c.args.serial es))
    (sym (force-pasts_of a c.self.invariant) ∙ ap (λ v. newest_force v.pasts.moments) c.self.view_is) c.change_of.ensures
