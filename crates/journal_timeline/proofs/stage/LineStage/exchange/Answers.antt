use Rattle.std.proofs.Common.{◌≡◌, true, vec_capacity, Some, refl, sym, ◌∙◌, ap, subst, arith, deque_capacity}
use Rattle.journal_moments.specs.Alone.{IsPlaceOf}
use Rattle.journal_moments.specs.MomentView.{MomentView, taking_view}
use Rattle.journal_moments.specs.declared.moment.Taking.{Taking}
use Rattle.journal_timeline.specs.StageHeld.{StageHeld, stage_held, staged_of, IsShort}
use Rattle.journal_timeline.specs.Staged.{Staged, TakesOutAlone}
use Rattle.journal_timeline.proofs.StageLemmas.{staged_is}
use Rattle.journal_timeline.proofs.StageAloneLemmas.{TakesAt, takes_at, whole_seen, short_seen, never_missing, can_take, TakesAlone, SoundStage-alone, takes_out_alone, calls_alone}
use Rattle.host_state.specs.Work.{CallsAtMost}
use Rattle.journal_timeline.proofs.stage.LineStage.exchange.Goals as goal

pub unreachable-requires : goal.unreachable-requires
unreachable-requires g c =
    let i = c.self.inside in
    let a : StageHeld = stage_held i.world i.records.items (deque_capacity i.records) i.pending.value i.short.value i.serial i.out i.passed i.moments.items (deque_capacity i.moments) i.standing i.gone in
    never_missing a c.args.self.now c.self.invariant c.self.view_is c.requires.alone c.in-None.ensures.place

pub exchange_taking-requires-clause-spare : goal.exchange_taking-requires-clause-spare
exchange_taking-requires-clause-spare g c κs within =
    let i = c.self.inside in
    let a : StageHeld = stage_held i.world i.records.items (deque_capacity i.records) i.pending.value i.short.value i.serial i.out i.passed i.moments.items (deque_capacity i.moments) i.standing i.gone in
    ap (λ (t : Taking). t.spare.items) c.deref_mut-3.ensures.value ∙ ap (λ (t : Taking). t.spare.items) c.deref_mut-2.ensures.value ∙ ap (λ (t : Taking). t.spare.items) c.deref_mut.ensures.value
    ∙ (short_seen a c.args.self.now c.self.invariant c.self.view_is c.requires.not_out).empty

pub exchange_taking-requires-clause-can : goal.exchange_taking-requires-clause-can
exchange_taking-requires-clause-can g c κs within =
    let i = c.self.inside in
    let a : StageHeld = stage_held i.world i.records.items (deque_capacity i.records) i.pending.value i.short.value i.serial i.out i.passed i.moments.items (deque_capacity i.moments) i.standing i.gone in
    let m : MomentView = taking_view c.deref_mut-3.result.now in
    let short : IsShort i.serial (taking_view i.short.value) i.short.value.spare.items = short_seen a c.args.self.now c.self.invariant c.self.view_is c.requires.not_out in
    let at_is : m.at ≡ c.in-Some.at = ap (λ (t : Taking). t.at) c.deref_mut-3.ensures.value ∙ ap (λ (t : Taking). t.at) c.deref_mut-2.ensures.value in
    let taken : TakesAt a m =
    takes_at a c.args.self.now m c.self.view_is c.requires.alone c.requires.in_order c.maps_are_well.ensures (subst (IsPlaceOf i.serial i.records.items) (sym at_is) c.in-Some.ensures.place)
    (omega (arith, at_is, c.in-Some.ensures.within, i.records.ok.0))
    (omega (arith, ap (λ (t : Taking). t.stays) c.deref_mut-3.ensures.value, at_is, c.len.ensures, i.records.ok.0))
    (ap (λ (t : Taking). t.other.items) c.deref_mut-3.ensures.value ∙ ap (λ (t : Taking). t.other.items) c.deref_mut-2.ensures.value ∙ ap (λ (t : Taking). t.other.items) c.deref_mut.ensures.value ∙ short.other)
    (omega (arith, short.room, ap (λ (t : Taking). vec_capacity t.spare) c.deref_mut-3.ensures.value, ap (λ (t : Taking). vec_capacity t.spare) c.deref_mut-2.ensures.value, ap (λ (t : Taking). vec_capacity t.spare) c.deref_mut.ensures.value)) in
    can_take a m c.self.invariant taken

-- what was taken out, and what is left
it : (g : _) (c : goal.After-self-5-1 g) →
    let i = c.self.inside in
    let a : StageHeld = stage_held i.world i.records.items (deque_capacity i.records) i.pending.value i.short.value i.serial i.out i.passed i.moments.items (deque_capacity i.moments) i.standing i.gone in
    let m : MomentView = taking_view c.deref_mut-3.result.now in
    TakesAt a m
it g c =
    let i = c.self.inside in
    let a : StageHeld = stage_held i.world i.records.items (deque_capacity i.records) i.pending.value i.short.value i.serial i.out i.passed i.moments.items (deque_capacity i.moments) i.standing i.gone in
    let m : MomentView = taking_view c.deref_mut-3.result.now in
    let short : IsShort i.serial (taking_view i.short.value) i.short.value.spare.items = short_seen a c.args.self.now c.self.invariant c.self.view_is c.requires.not_out in
    let at_is : m.at ≡ c.in-Some.at = ap (λ (t : Taking). t.at) c.deref_mut-3.ensures.value ∙ ap (λ (t : Taking). t.at) c.deref_mut-2.ensures.value in
    takes_at a c.args.self.now m c.self.view_is c.requires.alone c.requires.in_order c.maps_are_well.ensures (subst (IsPlaceOf i.serial i.records.items) (sym at_is) c.in-Some.ensures.place)
    (omega (arith, at_is, c.in-Some.ensures.within, i.records.ok.0))
    (omega (arith, ap (λ (t : Taking). t.stays) c.deref_mut-3.ensures.value, at_is, c.len.ensures, i.records.ok.0))
    (ap (λ (t : Taking). t.other.items) c.deref_mut-3.ensures.value ∙ ap (λ (t : Taking). t.other.items) c.deref_mut-2.ensures.value ∙ ap (λ (t : Taking). t.other.items) c.deref_mut.ensures.value ∙ short.other)
    (omega (arith, short.room, ap (λ (t : Taking). vec_capacity t.spare) c.deref_mut-3.ensures.value, ap (λ (t : Taking). vec_capacity t.spare) c.deref_mut-2.ensures.value, ap (λ (t : Taking). vec_capacity t.spare) c.deref_mut.ensures.value))

left : (g : _) (c : goal.After-self-5-1 g) →
    let i = c.self.inside in
    let a : StageHeld = stage_held i.world i.records.items (deque_capacity i.records) i.pending.value i.short.value i.serial i.out i.passed i.moments.items (deque_capacity i.moments) i.standing i.gone in
    let b : StageHeld = stage_held c.exchange_taking.new.world c.exchange_taking.new.records.items (deque_capacity c.exchange_taking.new.records) c.swap.new.x.value c.swap.new.y.value i.serial true 1 i.moments.items (deque_capacity i.moments) i.standing i.gone in
    TakesAlone a (taking_view c.deref_mut-3.result.now) c.self.invariant (it g c) b (taking_view c.exchange_taking.new.taking)
left g c =
    let i = c.self.inside in
    let a : StageHeld = stage_held i.world i.records.items (deque_capacity i.records) i.pending.value i.short.value i.serial i.out i.passed i.moments.items (deque_capacity i.moments) i.standing i.gone in
    let short : IsShort i.serial (taking_view i.short.value) i.short.value.spare.items = short_seen a c.args.self.now c.self.invariant c.self.view_is c.requires.not_out in
    record {
      exchanges = c.exchange_taking.ensures.exchanges;
      room = c.exchange_taking.ensures.kept;
      fits = omega (arith, c.exchange_taking.new.records.ok.0, c.exchange_taking.new.records.ok.1);
      pending = ap (λ b. taking_view b.value) c.swap.ensures.x_after;
      spare = ap (λ b. b.value.spare.items) c.swap.ensures.x_after ∙ c.exchange_taking.ensures.spare;
      out_is = ap (λ (t : Taking). Some t.out) c.deref_mut-3.ensures.value ∙ ap (λ (t : Taking). Some t.out) c.deref_mut-2.ensures.value ∙ ap (λ (t : Taking). Some t.out) c.deref_mut.ensures.value ∙ short.out;
      serial = refl;
      out = refl;
      passed = refl;
      moments = refl;
      moments_room = refl;
      undone = refl;
      standing = refl;
    }

pub invariant_of-self : goal.invariant_of-self
invariant_of-self g c =
    let i = c.self.inside in
    let a : StageHeld = stage_held i.world i.records.items (deque_capacity i.records) i.pending.value i.short.value i.serial i.out i.passed i.moments.items (deque_capacity i.moments) i.standing i.gone in
    let b : StageHeld = stage_held c.exchange_taking.new.world c.exchange_taking.new.records.items (deque_capacity c.exchange_taking.new.records) c.swap.new.x.value c.swap.new.y.value i.serial true 1 i.moments.items (deque_capacity i.moments) i.standing i.gone in
    SoundStage-alone a (taking_view c.deref_mut-3.result.now) c.self.invariant (it g c) (whole_seen a c.args.self.now c.self.invariant c.self.view_is c.requires.not_out c.requires.none_left) b (taking_view c.exchange_taking.new.taking) (left g c)

pub returns-clause-takes_out : goal.returns-clause-takes_out
returns-clause-takes_out g c =
    let i = c.self.inside in
    let a : StageHeld = stage_held i.world i.records.items (deque_capacity i.records) i.pending.value i.short.value i.serial i.out i.passed i.moments.items (deque_capacity i.moments) i.standing i.gone in
    let b : StageHeld = stage_held c.exchange_taking.new.world c.exchange_taking.new.records.items (deque_capacity c.exchange_taking.new.records) c.swap.new.x.value c.swap.new.y.value i.serial true 1 i.moments.items (deque_capacity i.moments) i.standing i.gone in
    subst (λ (s : Staged). TakesOutAlone s (staged_of b)) c.self.view_is
    (takes_out_alone a (taking_view c.deref_mut-3.result.now) c.self.invariant (it g c) (whole_seen a c.args.self.now c.self.invariant c.self.view_is c.requires.not_out c.requires.none_left) b (taking_view c.exchange_taking.new.taking) (left g c))

pub returns-clause-work : goal.returns-clause-work
returns-clause-work g c =
    let i = c.self.inside in
    let a : StageHeld = stage_held i.world i.records.items (deque_capacity i.records) i.pending.value i.short.value i.serial i.out i.passed i.moments.items (deque_capacity i.moments) i.standing i.gone in
    let b : StageHeld = stage_held c.exchange_taking.new.world c.exchange_taking.new.records.items (deque_capacity c.exchange_taking.new.records) c.swap.new.x.value c.swap.new.y.value i.serial true 1 i.moments.items (deque_capacity i.moments) i.standing i.gone in
    let made : CallsAtMost 1 i.world.work c.exchange_taking.new.world.work =
    calls_alone a (taking_view c.deref_mut-3.result.now) c.self.invariant (it g c) (whole_seen a c.args.self.now c.self.invariant c.self.view_is c.requires.not_out c.requires.none_left) b (taking_view c.exchange_taking.new.taking) (left g c) in
    subst (λ (s : Staged). CallsAtMost 1 s.line.work (staged_of b).line.work) (sym (staged_is a) ∙ c.self.view_is)
    (subst (λ (s : Staged). CallsAtMost 1 i.world.work s.line.work) (sym (staged_is b)) made)
