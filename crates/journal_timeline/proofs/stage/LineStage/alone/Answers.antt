use Rattle.std.proofs.Common.{sym, ◌∙◌, ap, deque_capacity}
use Rattle.journal_moments.specs.Alone.{is_alone}
use Rattle.journal_moments.proofs.FoundLemmas.{alone_same}
use Rattle.journal_timeline.specs.StageHeld.{StageHeld, stage_held, base_of}
use Rattle.journal_timeline.specs.Staged.{Staged}
use Rattle.journal_timeline.proofs.StageLemmas.{staged_is}
use Rattle.journal_timeline.proofs.stage.LineStage.alone.Goals as goal

pub returns : goal.returns
returns g c =
    let i = c.self.inside in
    let a : StageHeld = stage_held i.world i.records.items (deque_capacity i.records) i.pending.value i.short.value i.serial i.out i.passed i.moments.items (deque_capacity i.moments) i.standing i.gone in
    c.is_alone.ensures
    ∙ sym (alone_same i.world.ready i.serial (base_of a) i.records.items c.self.invariant.leads.standing)
    ∙ ap (λ (s : Staged). is_alone s.serial s.line.pasts.base s.in_place) (sym (staged_is a) ∙ c.self.view_is)
