use Rattle.std.proofs.Common.{subst, ◌-◌, ◌≤◌, length, ◌∙◌, ap, arith, deque_capacity, set}
use Rattle.journal_model.specs.Plain.{one_back}
use Rattle.journal_moments.specs.MomentView.{MomentView}
use Rattle.journal_moments.specs.Held.{Held, held}
use Rattle.journal_moments.proofs.MoveLemmas.{GoesBack, Sound-back, pasts_of-back, can_back}
use Rattle.journal_moments.proofs.NewestLemmas.{length-moments}
use Rattle.journal_moments.proofs.StandingLemmas.{within, last_stood, last_lies, fewer_stand}
use Rattle.host_state.specs.Work.{CallsAtMost}
use Rattle.host_state.proofs.CallLemmas.{within_more}
use Rattle.journal_moments.specs.Calls.{calls_back}
use Rattle.journal_moments.specs.View.{LineView}
use Rattle.journal_moments.proofs.CostLemmas.{back_calls}
use Rattle.journal_moments.specs.Lowered.{lowered}
use Rattle.journal_timeline.proofs.timeline.Timeline.back.Goals as goal

pub overflow_sub-newest : goal.overflow_sub-newest
overflow_sub-newest g c =
    let i = c.self.inside in
    let a : Held = held i.world i.records.items (deque_capacity i.records) i.moments.items i.standing i.gone in
    omega (arith, length-moments a, c.self.invariant.counts, ap (λ v. length v.pasts.moments) c.self.view_is, c.requires)

pub index_mut-requires : goal.index_mut-requires
index_mut-requires g c =
    let i = c.self.inside in
    let a : Held = held i.world i.records.items (deque_capacity i.records) i.moments.items i.standing i.gone in
    omega (arith, length-moments a, c.self.invariant.counts, ap (λ v. length v.pasts.moments) c.self.view_is, c.requires, within (lowered i.gone) i.standing i.moments.items c.self.invariant.counts, i.moments.ok.0)

pub exchange-requires-clause-can : goal.exchange-requires-clause-can
exchange-requires-clause-can g c κs bounds =
    let i = c.self.inside in
    let a : Held = held i.world i.records.items (deque_capacity i.records) i.moments.items i.standing i.gone in
    let some : 1 ≤ i.standing = omega (arith, length-moments a, c.self.invariant.counts, ap (λ v. length v.pasts.moments) c.self.view_is, c.requires) in
    let m : MomentView = c.index_mut.result.now in
    let p : MomentView = lowered i.gone m in
    can_back a p _ c.self.invariant (last_stood (lowered i.gone) i.standing i.moments.items m m some c.self.invariant.counts c.index_mut.ensures.value)

pub invariant_of-self : goal.invariant_of-self
invariant_of-self g c =
    let i = c.self.inside in
    let a : Held = held i.world i.records.items (deque_capacity i.records) i.moments.items i.standing i.gone in
    let m : MomentView = c.index_mut.result.now in
    let p : MomentView = lowered i.gone m in
    let n : MomentView = c.exchange.new.moment in
    let q : MomentView = lowered i.gone n in
    let some : 1 ≤ i.standing = omega (arith, length-moments a, c.self.invariant.counts, ap (λ v. length v.pasts.moments) c.self.view_is, c.requires) in
    let b : Held = held c.exchange.new.world c.exchange.new.records.items (deque_capacity c.exchange.new.records) (set i.moments.items (i.standing - 1) n) (i.standing - 1) i.gone in
    let goes : GoesBack a b p q = record {
      swaps = record { fits = omega (arith, c.exchange.new.records.ok.0, c.exchange.new.records.ok.1); room = c.exchange.ensures.kept; exchanges = c.exchange.ensures.exchanges };
      moments = last_stood (lowered i.gone) i.standing i.moments.items m n some c.self.invariant.counts c.index_mut.ensures.value;
      undone = last_lies (lowered i.gone) i.standing i.moments.items n some c.self.invariant.counts;
      counts = fewer_stand (lowered i.gone) i.standing i.moments.items n c.self.invariant.counts;
    } in
    Sound-back a b p q c.self.invariant goes

pub returns-clause-pasts : goal.returns-clause-pasts
returns-clause-pasts g c =
    let i = c.self.inside in
    let a : Held = held i.world i.records.items (deque_capacity i.records) i.moments.items i.standing i.gone in
    let m : MomentView = c.index_mut.result.now in
    let p : MomentView = lowered i.gone m in
    let n : MomentView = c.exchange.new.moment in
    let q : MomentView = lowered i.gone n in
    let some : 1 ≤ i.standing = omega (arith, length-moments a, c.self.invariant.counts, ap (λ v. length v.pasts.moments) c.self.view_is, c.requires) in
    let b : Held = held c.exchange.new.world c.exchange.new.records.items (deque_capacity c.exchange.new.records) (set i.moments.items (i.standing - 1) n) (i.standing - 1) i.gone in
    let goes : GoesBack a b p q = record {
      swaps = record { fits = omega (arith, c.exchange.new.records.ok.0, c.exchange.new.records.ok.1); room = c.exchange.ensures.kept; exchanges = c.exchange.ensures.exchanges };
      moments = last_stood (lowered i.gone) i.standing i.moments.items m n some c.self.invariant.counts c.index_mut.ensures.value;
      undone = last_lies (lowered i.gone) i.standing i.moments.items n some c.self.invariant.counts;
      counts = fewer_stand (lowered i.gone) i.standing i.moments.items n c.self.invariant.counts;
    } in
    pasts_of-back a b p q c.self.invariant goes ∙ ap (λ v. one_back v.pasts) c.self.view_is

pub returns-clause-work : goal.returns-clause-work
returns-clause-work g c =
    let i = c.self.inside in
    let a : Held = held i.world i.records.items (deque_capacity i.records) i.moments.items i.standing i.gone in
    let m : MomentView = c.index_mut.result.now in
    let p : MomentView = lowered i.gone m in
    let n : MomentView = c.exchange.new.moment in
    let q : MomentView = lowered i.gone n in
    let some : 1 ≤ i.standing = omega (arith, length-moments a, c.self.invariant.counts, ap (λ v. length v.pasts.moments) c.self.view_is, c.requires) in
    let b : Held = held c.exchange.new.world c.exchange.new.records.items (deque_capacity c.exchange.new.records) (set i.moments.items (i.standing - 1) n) (i.standing - 1) i.gone in
    let goes : GoesBack a b p q = record {
      swaps = record { fits = omega (arith, c.exchange.new.records.ok.0, c.exchange.new.records.ok.1); room = c.exchange.ensures.kept; exchanges = c.exchange.ensures.exchanges };
      moments = last_stood (lowered i.gone) i.standing i.moments.items m n some c.self.invariant.counts c.index_mut.ensures.value;
      undone = last_lies (lowered i.gone) i.standing i.moments.items n some c.self.invariant.counts;
      counts = fewer_stand (lowered i.gone) i.standing i.moments.items n c.self.invariant.counts;
    } in
    subst (λ (v : LineView). CallsAtMost (calls_back 1 v.pasts.moments) v.work c.exchange.new.world.work) c.self.view_is (within_more _ _ _ _ (back_calls a b p q c.self.invariant goes) c.exchange.ensures.exchanges.work)
