use Rattle.std.proofs.Common.{subst, ◌+◌, ◌<◌, length, ◌∙◌, ap, arith, deque_capacity, set}
use Rattle.journal_model.specs.Plain.{newest_force, one_forth}
use Rattle.journal_moments.specs.MomentView.{MomentView}
use Rattle.journal_moments.specs.Held.{Held, held}
use Rattle.journal_moments.proofs.MoveLemmas.{GoesForth, Sound-forth, pasts_of-forth, can_forth}
use Rattle.journal_moments.proofs.NewestLemmas.{length-undone}
use Rattle.journal_moments.proofs.StandingLemmas.{count_undone, next_lay, next_stands, more_stand}
use Rattle.host_state.specs.Work.{CallsAtMost}
use Rattle.host_state.proofs.CallLemmas.{within_more}
use Rattle.journal_moments.specs.Calls.{calls_forth}
use Rattle.journal_moments.specs.View.{LineView}
use Rattle.journal_moments.proofs.CostLemmas.{forth_calls}
use Rattle.journal_moments.specs.Lowered.{lowered}
use Rattle.journal_timeline.proofs.timeline.Timeline.forth.Goals as goal

pub index_mut-requires : goal.index_mut-requires
index_mut-requires g c =
    let i = c.self.inside in
    let a : Held = held i.world i.records.items (deque_capacity i.records) i.moments.items i.standing i.gone in
    omega (arith, length-undone a, ap (λ v. length v.pasts.undone) c.self.view_is, c.requires, count_undone (lowered i.gone) i.standing i.moments.items c.self.invariant.counts, i.moments.ok.0)

pub exchange-requires-clause-can : goal.exchange-requires-clause-can
exchange-requires-clause-can g c κs bounds =
    let i = c.self.inside in
    let a : Held = held i.world i.records.items (deque_capacity i.records) i.moments.items i.standing i.gone in
    let m : MomentView = c.index_mut.result.now in
    let p : MomentView = lowered i.gone m in
    let some : i.standing < length i.moments.items = omega (arith, length-undone a, ap (λ v. length v.pasts.undone) c.self.view_is, c.requires, count_undone (lowered i.gone) i.standing i.moments.items c.self.invariant.counts) in
    can_forth a p _ c.self.invariant (next_lay (lowered i.gone) i.standing i.moments.items m m some c.index_mut.ensures.value)

pub invariant_of-self : goal.invariant_of-self
invariant_of-self g c =
    let i = c.self.inside in
    let a : Held = held i.world i.records.items (deque_capacity i.records) i.moments.items i.standing i.gone in
    let m : MomentView = c.index_mut.result.now in
    let p : MomentView = lowered i.gone m in
    let n : MomentView = c.exchange.new.moment in
    let q : MomentView = lowered i.gone n in
    let some : i.standing < length i.moments.items = omega (arith, length-undone a, ap (λ v. length v.pasts.undone) c.self.view_is, c.requires, count_undone (lowered i.gone) i.standing i.moments.items c.self.invariant.counts) in
    let b : Held = held c.exchange.new.world c.exchange.new.records.items (deque_capacity c.exchange.new.records) (set i.moments.items i.standing n) (i.standing + 1) i.gone in
    let goes : GoesForth a b p q = record {
      swaps = record { fits = omega (arith, c.exchange.new.records.ok.0, c.exchange.new.records.ok.1); room = c.exchange.ensures.kept; exchanges = c.exchange.ensures.exchanges };
      undone = next_lay (lowered i.gone) i.standing i.moments.items m n some c.index_mut.ensures.value;
      moments = next_stands (lowered i.gone) i.standing i.moments.items n some;
      counts = more_stand (lowered i.gone) i.standing i.moments.items n some;
    } in
    Sound-forth a b p q c.self.invariant goes

pub returns-clause-pasts : goal.returns-clause-pasts
returns-clause-pasts g c =
    let i = c.self.inside in
    let a : Held = held i.world i.records.items (deque_capacity i.records) i.moments.items i.standing i.gone in
    let m : MomentView = c.index_mut.result.now in
    let p : MomentView = lowered i.gone m in
    let n : MomentView = c.exchange.new.moment in
    let q : MomentView = lowered i.gone n in
    let some : i.standing < length i.moments.items = omega (arith, length-undone a, ap (λ v. length v.pasts.undone) c.self.view_is, c.requires, count_undone (lowered i.gone) i.standing i.moments.items c.self.invariant.counts) in
    let b : Held = held c.exchange.new.world c.exchange.new.records.items (deque_capacity c.exchange.new.records) (set i.moments.items i.standing n) (i.standing + 1) i.gone in
    let goes : GoesForth a b p q = record {
      swaps = record { fits = omega (arith, c.exchange.new.records.ok.0, c.exchange.new.records.ok.1); room = c.exchange.ensures.kept; exchanges = c.exchange.ensures.exchanges };
      undone = next_lay (lowered i.gone) i.standing i.moments.items m n some c.index_mut.ensures.value;
      moments = next_stands (lowered i.gone) i.standing i.moments.items n some;
      counts = more_stand (lowered i.gone) i.standing i.moments.items n some;
    } in
    pasts_of-forth a b p q c.self.invariant goes ∙ ap (λ v. one_forth v.pasts) c.self.view_is

pub returns-clause-work : goal.returns-clause-work
returns-clause-work g c =
    let i = c.self.inside in
    let a : Held = held i.world i.records.items (deque_capacity i.records) i.moments.items i.standing i.gone in
    let m : MomentView = c.index_mut.result.now in
    let p : MomentView = lowered i.gone m in
    let n : MomentView = c.exchange.new.moment in
    let q : MomentView = lowered i.gone n in
    let some : i.standing < length i.moments.items = omega (arith, length-undone a, ap (λ v. length v.pasts.undone) c.self.view_is, c.requires, count_undone (lowered i.gone) i.standing i.moments.items c.self.invariant.counts) in
    let b : Held = held c.exchange.new.world c.exchange.new.records.items (deque_capacity c.exchange.new.records) (set i.moments.items i.standing n) (i.standing + 1) i.gone in
    let goes : GoesForth a b p q = record {
      swaps = record { fits = omega (arith, c.exchange.new.records.ok.0, c.exchange.new.records.ok.1); room = c.exchange.ensures.kept; exchanges = c.exchange.ensures.exchanges };
      undone = next_lay (lowered i.gone) i.standing i.moments.items m n some c.index_mut.ensures.value;
      moments = next_stands (lowered i.gone) i.standing i.moments.items n some;
      counts = more_stand (lowered i.gone) i.standing i.moments.items n some;
    } in
    subst (λ (v : LineView). CallsAtMost (calls_forth 1 (newest_force v.pasts.moments) v.pasts.undone) v.work c.exchange.new.world.work) c.self.view_is (within_more _ _ _ _ (forth_calls a b p q c.self.invariant goes) c.exchange.ensures.exchanges.work)
