use Rattle.std.proofs.Common.{sym, ◌∙◌, ap, deque_capacity}
use Rattle.journal_model.specs.Plain.{newest_force}
use Rattle.journal_model.specs.Force.{is_in_force}
use Rattle.journal_moments.specs.Held.{Held, held}
use Rattle.journal_moments.proofs.NewestLemmas.{force-pasts_of}
use Rattle.journal_timeline.proofs.timeline.Timeline.is_in_force.Goals as goal

pub returns : goal.returns
returns g c =
    let i = c.self.inside in
    let a : Held = held i.world i.records.items (deque_capacity i.records) i.moments.items i.standing i.gone in
    c.has_serial.ensures ∙ ap (is_in_force c.args.serial) (sym (force-pasts_of a c.self.invariant)) ∙ ap (λ v. is_in_force c.args.serial (newest_force v.pasts.moments)) c.self.view_is
