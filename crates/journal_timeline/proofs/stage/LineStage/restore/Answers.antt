use Rattle.std.proofs.Common.{refl, sym, ◌∙◌, ap, subst, arith, deque_capacity}
use Rattle.host_state.specs.World.{Ready}
use Rattle.journal_moments.specs.Held.{Held, held}
use Rattle.journal_timeline.specs.StageHeld.{StageHeld, stage_held, calls_to_restore}
use Rattle.journal_timeline.specs.Staged.{Staged}
use Rattle.host_state.specs.Work.{CallsAtMost}
use Rattle.journal_moments.specs.Calls.{calls_to_swap}
use Rattle.journal_moments.specs.Swaps.{Exchanges}
use Rattle.journal_moments.specs.MomentView.{taking_view}
use Rattle.journal_moments.specs.declared.moment.Taking.{Taking}
use Rattle.journal_timeline.proofs.StageLemmas.{Restores, Sound-restore, pasts_of-restore, staged_is}
use Rattle.journal_timeline.proofs.stage.LineStage.restore.Goals as goal

pub invariant_of-result : goal.invariant_of-result
invariant_of-result g c =
    let i = c.self.inside in
    let a : StageHeld = stage_held i.world i.records.items (deque_capacity i.records) i.pending.value i.short.value i.serial i.out i.passed i.moments.items (deque_capacity i.moments) i.standing i.gone in
    let b : Held = held c.exchange_taking.new.world c.exchange_taking.new.records.items (deque_capacity c.exchange_taking.new.records) i.moments.items i.standing i.gone in
    let back : Restores a b = record {
      moment = taking_view c.exchange_taking.new.taking;
      exchanges = subst (λ (t : Taking). Exchanges i.world i.records.items (taking_view t) c.exchange_taking.new.world c.exchange_taking.new.records.items (taking_view c.exchange_taking.new.taking)) c.deref_mut.ensures.value c.exchange_taking.ensures.exchanges;
      room = c.exchange_taking.ensures.kept;
      fits = omega (arith, c.exchange_taking.new.records.ok.0, c.exchange_taking.new.records.ok.1);
      moments = refl;
      undone = refl;
      standing = refl;
    } in
    Sound-restore a b c.self.invariant back

pub returns-clause-pasts : goal.returns-clause-pasts
returns-clause-pasts g c =
    let i = c.self.inside in
    let a : StageHeld = stage_held i.world i.records.items (deque_capacity i.records) i.pending.value i.short.value i.serial i.out i.passed i.moments.items (deque_capacity i.moments) i.standing i.gone in
    let b : Held = held c.exchange_taking.new.world c.exchange_taking.new.records.items (deque_capacity c.exchange_taking.new.records) i.moments.items i.standing i.gone in
    let back : Restores a b = record {
      moment = taking_view c.exchange_taking.new.taking;
      exchanges = subst (λ (t : Taking). Exchanges i.world i.records.items (taking_view t) c.exchange_taking.new.world c.exchange_taking.new.records.items (taking_view c.exchange_taking.new.taking)) c.deref_mut.ensures.value c.exchange_taking.ensures.exchanges;
      room = c.exchange_taking.ensures.kept;
      fits = omega (arith, c.exchange_taking.new.records.ok.0, c.exchange_taking.new.records.ok.1);
      moments = refl;
      undone = refl;
      standing = refl;
    } in
    pasts_of-restore a b c.self.invariant back ∙ ap (λ s. s.line.pasts) c.self.view_is

pub returns-clause-boxes : goal.returns-clause-boxes
returns-clause-boxes g c =
    let i = c.self.inside in
    let a : StageHeld = stage_held i.world i.records.items (deque_capacity i.records) i.pending.value i.short.value i.serial i.out i.passed i.moments.items (deque_capacity i.moments) i.standing i.gone in
    ap (λ (v : Ready). v.makes) c.exchange_taking.ensures.exchanges.ready ∙ sym (ap (λ s. s.line.makes) (staged_is a)) ∙ ap (λ s. s.line.makes) c.self.view_is

pub returns-clause-work : goal.returns-clause-work
returns-clause-work g c =
    let i = c.self.inside in
    let a : StageHeld = stage_held i.world i.records.items (deque_capacity i.records) i.pending.value i.short.value i.serial i.out i.passed i.moments.items (deque_capacity i.moments) i.standing i.gone in
    let work = c.exchange_taking.new.world.work in
    let made : CallsAtMost (calls_to_restore a) i.world.work work =
    subst (λ (t : Taking). CallsAtMost (calls_to_swap i.records.items (taking_view t)) i.world.work work) c.deref_mut.ensures.value c.exchange_taking.ensures.exchanges.work in
    subst (λ (s : Staged). CallsAtMost s.to_restore s.line.work work) (sym (staged_is a) ∙ c.self.view_is) made
