use Rattle.std.proofs.Common.{◌≡◌, [], ◌∷◌, ◌++◌, length, take, drop, refl, sym, ◌∙◌, ap, deque_capacity, ◌+◌, arith, map as each}
use Rattle.journal_model.specs.Without.{with_taking_out}
use Rattle.journal_moments.specs.Held.{Held, held}
use Rattle.journal_timeline.specs.StageHeld.{StageHeld, stage_held}
use Rattle.journal_moments.specs.MomentView.{MomentView, taking_view}
use Rattle.journal_moments.specs.declared.moment.Taking.{Taking}
use Rattle.journal_moments.proofs.StandingLemmas.{pushed_stands}
use Rattle.journal_timeline.proofs.StageLemmas.{Keeps, Sound-keep, pasts_of-keep, staged_is}
use Rattle.journal_moments.specs.Lowered.{lowered}
use Rattle.journal_moments.proofs.GoneLemmas.{lowered-at, lowered-other}
use Rattle.journal_timeline.proofs.stage.LineStage.keep.Goals as goal

pub behind-at-requires : goal.behind-at-requires
behind-at-requires g c = omega (arith, ap (λ (t : Taking). t.at) c.deref.ensures, c.self.invariant.can.within, c.self.inside.records.ok.0, c.self.inside.records.small.0, c.self.inside.records.small.1)

pub invariant_of-result : goal.invariant_of-result
invariant_of-result g c =
    let i = c.self.inside in
    let a : StageHeld = stage_held i.world i.records.items (deque_capacity i.records) i.pending.value i.short.value i.serial i.out i.passed i.moments.items (deque_capacity i.moments) i.standing i.gone in
    let n : MomentView = c.of_taking.result in
    let m : MomentView = lowered i.gone n in
    let b : Held = held i.world i.records.items (deque_capacity i.records) c.push_back_reserved.new.self.items c.len-standing.result i.gone in
    let all : c.push_back_reserved.new.self.items ≡ take i.standing i.moments.items ++ n ∷ [] = c.push_back_reserved.ensures.items ∙ ap (λ xs. xs ++ n ∷ []) c.truncate.ensures.items in
    let stands = pushed_stands (lowered i.gone) i.standing i.moments.items c.push_back_reserved.new.self.items n all in
    let len : c.len-standing.result ≡ length c.push_back_reserved.new.self.items = c.len-standing.ensures ∙ c.push_back_reserved.new.self.ok.0 in
    let at_is : n.at ≡ i.gone + i.pending.value.at = ap (λ (x : MomentView). x.at) c.of_taking.ensures ∙ ap (λ (t : Taking). (taking_view t).at) c.deref_mut-2.ensures.value ∙ c.behind-at.ensures ∙ ap (λ (t : Taking). i.gone + t.at) c.deref.ensures in
    let kept : Keeps a b m = record {
      world = refl;
      records = refl;
      room = refl;
      moments = ap (λ k. each (lowered i.gone) (take k c.push_back_reserved.new.self.items)) len ∙ stands.0;
      undone = ap (λ k. each (lowered i.gone) (drop k c.push_back_reserved.new.self.items)) len ∙ stands.1;
      counts = ap (λ k. length (each (lowered i.gone) (take k c.push_back_reserved.new.self.items))) len ∙ stands.2 ∙ sym len;
      at = lowered-at i.gone i.pending.value.at n at_is;
      stays = ap (λ (x : MomentView). x.stays) c.of_taking.ensures ∙ ap (λ (t : Taking). (taking_view t).stays) c.deref_mut-2.ensures.value ∙ ap (λ (t : Taking). (taking_view t).stays) c.deref_mut.ensures.value;
      other = lowered-other i.gone i.pending.value.at n at_is ∙ ap (λ (x : MomentView). x.other) c.of_taking.ensures ∙ ap (λ (t : Taking). (taking_view t).other) (c.deref_mut-2.ensures.value) ∙ ap (λ (t : Taking). (taking_view t).other) c.deref_mut.ensures.value;
      spare = ap (λ (x : MomentView). x.room) c.of_taking.ensures ∙ ap (λ (t : Taking). (taking_view t).room) c.deref_mut-2.ensures.value ∙ ap (λ (t : Taking). (taking_view t).room) c.deref_mut.ensures.value;
      out = ap (λ (x : MomentView). x.out) c.of_taking.ensures ∙ ap (λ (t : Taking). (taking_view t).out) c.deref_mut-2.ensures.value ∙ ap (λ (t : Taking). (taking_view t).out) c.deref_mut.ensures.value;
    } in
    Sound-keep a b m c.self.invariant kept

pub returns-clause-pasts : goal.returns-clause-pasts
returns-clause-pasts g c =
    let i = c.self.inside in
    let a : StageHeld = stage_held i.world i.records.items (deque_capacity i.records) i.pending.value i.short.value i.serial i.out i.passed i.moments.items (deque_capacity i.moments) i.standing i.gone in
    let n : MomentView = c.of_taking.result in
    let m : MomentView = lowered i.gone n in
    let b : Held = held i.world i.records.items (deque_capacity i.records) c.push_back_reserved.new.self.items c.len-standing.result i.gone in
    let all : c.push_back_reserved.new.self.items ≡ take i.standing i.moments.items ++ n ∷ [] = c.push_back_reserved.ensures.items ∙ ap (λ xs. xs ++ n ∷ []) c.truncate.ensures.items in
    let stands = pushed_stands (lowered i.gone) i.standing i.moments.items c.push_back_reserved.new.self.items n all in
    let len : c.len-standing.result ≡ length c.push_back_reserved.new.self.items = c.len-standing.ensures ∙ c.push_back_reserved.new.self.ok.0 in
    let at_is : n.at ≡ i.gone + i.pending.value.at = ap (λ (x : MomentView). x.at) c.of_taking.ensures ∙ ap (λ (t : Taking). (taking_view t).at) c.deref_mut-2.ensures.value ∙ c.behind-at.ensures ∙ ap (λ (t : Taking). i.gone + t.at) c.deref.ensures in
    let kept : Keeps a b m = record {
      world = refl;
      records = refl;
      room = refl;
      moments = ap (λ k. each (lowered i.gone) (take k c.push_back_reserved.new.self.items)) len ∙ stands.0;
      undone = ap (λ k. each (lowered i.gone) (drop k c.push_back_reserved.new.self.items)) len ∙ stands.1;
      counts = ap (λ k. length (each (lowered i.gone) (take k c.push_back_reserved.new.self.items))) len ∙ stands.2 ∙ sym len;
      at = lowered-at i.gone i.pending.value.at n at_is;
      stays = ap (λ (x : MomentView). x.stays) c.of_taking.ensures ∙ ap (λ (t : Taking). (taking_view t).stays) c.deref_mut-2.ensures.value ∙ ap (λ (t : Taking). (taking_view t).stays) c.deref_mut.ensures.value;
      other = lowered-other i.gone i.pending.value.at n at_is ∙ ap (λ (x : MomentView). x.other) c.of_taking.ensures ∙ ap (λ (t : Taking). (taking_view t).other) (c.deref_mut-2.ensures.value) ∙ ap (λ (t : Taking). (taking_view t).other) c.deref_mut.ensures.value;
      spare = ap (λ (x : MomentView). x.room) c.of_taking.ensures ∙ ap (λ (t : Taking). (taking_view t).room) c.deref_mut-2.ensures.value ∙ ap (λ (t : Taking). (taking_view t).room) c.deref_mut.ensures.value;
      out = ap (λ (x : MomentView). x.out) c.of_taking.ensures ∙ ap (λ (t : Taking). (taking_view t).out) c.deref_mut-2.ensures.value ∙ ap (λ (t : Taking). (taking_view t).out) c.deref_mut.ensures.value;
    } in
    pasts_of-keep a b m c.args.serial c.self.invariant kept (ap (λ (x : MomentView). x.serial) c.of_taking.ensures) ∙ ap (λ s. with_taking_out s.line.pasts c.args.serial s.serial s.in_place s.state) c.self.view_is

pub returns-clause-boxes : goal.returns-clause-boxes
returns-clause-boxes g c =
    let i = c.self.inside in
    let a : StageHeld = stage_held i.world i.records.items (deque_capacity i.records) i.pending.value i.short.value i.serial i.out i.passed i.moments.items (deque_capacity i.moments) i.standing i.gone in
    sym (ap (λ s. s.line.makes) (staged_is a)) ∙ ap (λ s. s.line.makes) c.self.view_is

pub returns-clause-work : goal.returns-clause-work
returns-clause-work g c =
    let i = c.self.inside in
    let a : StageHeld = stage_held i.world i.records.items (deque_capacity i.records) i.pending.value i.short.value i.serial i.out i.passed i.moments.items (deque_capacity i.moments) i.standing i.gone in
    sym (ap (λ s. s.line.work) (staged_is a)) ∙ ap (λ s. s.line.work) c.self.view_is
