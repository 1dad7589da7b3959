use Rattle.std.proofs.Common.{ap, length, vec_len, arith, deque_capacity}
use Rattle.journal_moments.specs.declared.moment.Taking.{Taking}
use Rattle.journal_timeline.specs.StageHeld.{StageHeld, stage_held}
use Rattle.journal_timeline.proofs.StageLemmas.{staged-left}
use Rattle.journal_timeline.proofs.stage.LineStage.left.Goals as goal

pub returns : goal.returns
returns g c =
    let i = c.self.inside in
    let a : StageHeld = stage_held i.world i.records.items (deque_capacity i.records) i.pending.value i.short.value i.serial i.out i.passed i.moments.items (deque_capacity i.moments) i.standing i.gone in
    omega (arith, c.len.ensures, ap (λ (t : Taking). vec_len t.other) c.deref.ensures, i.pending.value.other.ok.0, staged-left a, ap (λ s. length s.left) c.self.view_is)
