use Rattle.std.proofs.Common.{ap, sym, ◌∙◌, deque_capacity}
use Rattle.journal_timeline.specs.StageHeld.{StageHeld, stage_held}
use Rattle.journal_timeline.proofs.StageLemmas.{staged_is}
use Rattle.journal_timeline.proofs.stage.LineStage.work.Goals as goal

pub returns : goal.returns
returns g c =
    let i = c.self.inside in
    let a : StageHeld = stage_held i.world i.records.items (deque_capacity i.records) i.pending.value i.short.value i.serial i.out i.passed i.moments.items (deque_capacity i.moments) i.standing i.gone in
    c.work.ensures ∙ sym (ap (λ s. s.line.work) (staged_is a)) ∙ ap (λ s. s.line.work) c.self.view_is
