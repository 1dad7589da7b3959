use Rattle.std.proofs.Common.{◌≡◌, ◌-◌, ◌≤◌, ℕ, length, map as each, sym, ◌∙◌, ap, subst, arith, deque_capacity}
use Rattle.journal_model.specs.Rebase.{forth_by}
use Rattle.journal_model.specs.Plain.{newest_force, cut}
use Rattle.journal_moments.specs.Held.{Held, held, pasts_of}
use Rattle.journal_moments.specs.Lowered.{lowered, AllLowered}
use Rattle.journal_moments.specs.Rebased.{AllBegin, on_new_base}
use Rattle.journal_moments.proofs.AdvanceLemmas.{Advances, Begins, Sound-advance, pasts_of-advance, gone_within, held_advances}
use Rattle.journal_moments.proofs.NewestLemmas.{length-moments}
use Rattle.journal_moments.proofs.StandingLemmas.{within}
use Rattle.journal_timeline.proofs.timeline.Timeline.advance.Goals as goal

pub drop_front-requires : goal.drop_front-requires
drop_front-requires g c =
    let i = c.self.inside in
    let a : Held = held i.world i.records.items (deque_capacity i.records) i.moments.items i.standing i.gone in
    omega (arith, c.requires.within, ap (λ v. length v.pasts.moments) c.self.view_is, length-moments a, c.self.invariant.counts, within (lowered i.gone) i.standing i.moments.items c.self.invariant.counts, i.moments.ok.0)

pub overflow_sub-self : goal.overflow_sub-self
overflow_sub-self g c =
    let i = c.self.inside in
    let a : Held = held i.world i.records.items (deque_capacity i.records) i.moments.items i.standing i.gone in
    omega (arith, c.requires.within, ap (λ v. length v.pasts.moments) c.self.view_is, length-moments a, c.self.invariant.counts)

pub drop_front-requires-2 : goal.drop_front-requires-2
drop_front-requires-2 g c =
    let i = c.self.inside in
    let a : Held = held i.world i.records.items (deque_capacity i.records) i.moments.items i.standing i.gone in
    let n : ℕ = c.in_force_after-below.result in
    let some : c.args.count ≤ length a.moments = omega (arith, c.requires.within, ap (λ v. length v.pasts.moments) c.self.view_is, length-moments a) in
    let is : n ≡ length (newest_force (cut c.args.count (pasts_of a)).moments) = c.in_force_after-below.ensures ∙ sym (ap (λ v. length (newest_force (cut c.args.count v.pasts).moments)) c.self.view_is) in
    let begin : Begins a c.args.count = subst (λ v. let q = cut c.args.count v.pasts in AllBegin (newest_force q.moments) q.undone) (sym c.self.view_is) c.requires.begin in
    omega (arith, gone_within a c.self.invariant c.args.count n some is begin, i.records.ok.0)

pub give_up-requires : goal.give_up-requires
give_up-requires g c =
    let i = c.self.inside in
    let a : Held = held i.world i.records.items (deque_capacity i.records) i.moments.items i.standing i.gone in
    let n : ℕ = c.in_force_after-below.result in
    let some : c.args.count ≤ length a.moments = omega (arith, c.requires.within, ap (λ v. length v.pasts.moments) c.self.view_is, length-moments a) in
    let is : n ≡ length (newest_force (cut c.args.count (pasts_of a)).moments) = c.in_force_after-below.ensures ∙ sym (ap (λ v. length (newest_force (cut c.args.count v.pasts).moments)) c.self.view_is) in
    let begin : Begins a c.args.count = subst (λ v. let q = cut c.args.count v.pasts in AllBegin (newest_force q.moments) q.undone) (sym c.self.view_is) c.requires.begin in
    omega (arith, gone_within a c.self.invariant c.args.count n some is begin, i.records.ok.0, i.records.small.0, i.records.small.1)

pub invariant_of-self : goal.invariant_of-self
invariant_of-self g c =
    let i = c.self.inside in
    let a : Held = held i.world i.records.items (deque_capacity i.records) i.moments.items i.standing i.gone in
    let b : Held = held i.world c.drop_front-2.new.list.items (deque_capacity c.drop_front-2.new.list) c.give_up.new.moments.items (i.standing - c.args.count) c.give_up.new.gone in
    let n : ℕ = c.in_force_after-below.result in
    let some : c.args.count ≤ length a.moments = omega (arith, c.requires.within, ap (λ v. length v.pasts.moments) c.self.view_is, length-moments a) in
    let is : n ≡ length (newest_force (cut c.args.count (pasts_of a)).moments) = c.in_force_after-below.ensures ∙ sym (ap (λ v. length (newest_force (cut c.args.count v.pasts).moments)) c.self.view_is) in
    let begin : Begins a c.args.count = subst (λ v. let q = cut c.args.count v.pasts in AllBegin (newest_force q.moments) q.undone) (sym c.self.view_is) c.requires.begin in
    let steps : Advances c.args.count n a b = held_advances i.world i.records.items _ (deque_capacity i.records) _ i.moments.items c.give_up.new.moments.items i.standing i.gone c.give_up.new.gone c.args.count n (omega (arith, some, c.self.invariant.counts)) c.self.invariant.counts c.drop_front-2.ensures.items c.drop_front-2.ensures.kept
    (subst (λ ms. AllLowered n (each (lowered i.gone) ms) (each (lowered c.give_up.new.gone) c.give_up.new.moments.items)) c.drop_front.ensures.items c.give_up.ensures) in
    Sound-advance a b c.self.invariant c.args.count n some steps is begin

pub returns-clause-pasts : goal.returns-clause-pasts
returns-clause-pasts g c =
    let i = c.self.inside in
    let a : Held = held i.world i.records.items (deque_capacity i.records) i.moments.items i.standing i.gone in
    let b : Held = held i.world c.drop_front-2.new.list.items (deque_capacity c.drop_front-2.new.list) c.give_up.new.moments.items (i.standing - c.args.count) c.give_up.new.gone in
    let n : ℕ = c.in_force_after-below.result in
    let some : c.args.count ≤ length a.moments = omega (arith, c.requires.within, ap (λ v. length v.pasts.moments) c.self.view_is, length-moments a) in
    let is : n ≡ length (newest_force (cut c.args.count (pasts_of a)).moments) = c.in_force_after-below.ensures ∙ sym (ap (λ v. length (newest_force (cut c.args.count v.pasts).moments)) c.self.view_is) in
    let begin : Begins a c.args.count = subst (λ v. let q = cut c.args.count v.pasts in AllBegin (newest_force q.moments) q.undone) (sym c.self.view_is) c.requires.begin in
    let steps : Advances c.args.count n a b = held_advances i.world i.records.items _ (deque_capacity i.records) _ i.moments.items c.give_up.new.moments.items i.standing i.gone c.give_up.new.gone c.args.count n (omega (arith, some, c.self.invariant.counts)) c.self.invariant.counts c.drop_front-2.ensures.items c.drop_front-2.ensures.kept
    (subst (λ ms. AllLowered n (each (lowered i.gone) ms) (each (lowered c.give_up.new.gone) c.give_up.new.moments.items)) c.drop_front.ensures.items c.give_up.ensures) in
    pasts_of-advance a b c.self.invariant c.args.count n some steps is begin
    ∙ ap (λ v. forth_by (length v.pasts.moments - c.args.count) (on_new_base (cut c.args.count v.pasts))) c.self.view_is
