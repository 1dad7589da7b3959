use Rattle.std.proofs.Common.{◌≡◌, ◌↔◌, ℕ, ◌≤◌, true, length, take, sym, ◌∙◌, ap, subst, arith, deque_capacity}
use Rattle.journal_model.specs.Plain.{now, newest_force, cut}
use Rattle.journal_moments.specs.Held.{Held, held, base_of, pasts_of}
use Rattle.journal_moments.specs.Rebased.{AllBegin}
use Rattle.journal_moments.specs.Retired.{NoneRetired, StayIn, retire_none}
use Rattle.journal_moments.proofs.AdvanceLemmas.{Begins, gone_within}
use Rattle.journal_moments.proofs.HeldLemmas.{pasts_is}
use Rattle.journal_moments.proofs.NewestLemmas.{length-moments}
use Rattle.journal_moments.proofs.PastLemmas.{none_at, from_base}
use Rattle.journal_timeline.proofs.timeline.Timeline.retires_none.Goals as goal

pub retires_none-requires : goal.retires_none-requires
retires_none-requires g c =
    let i = c.self.inside in
    let a : Held = held i.world i.records.items (deque_capacity i.records) i.moments.items i.standing i.gone in
    let n : ℕ = c.in_force_after-below.result in
    let some : c.args.count ≤ length a.moments = omega (arith, c.requires.within, ap (λ v. length v.pasts.moments) c.self.view_is, length-moments a) in
    let is : n ≡ length (newest_force (cut c.args.count (pasts_of a)).moments) = c.in_force_after-below.ensures ∙ sym (ap (λ v. length (newest_force (cut c.args.count v.pasts).moments)) c.self.view_is) in
    let begin : Begins a c.args.count = subst (λ v. let q = cut c.args.count v.pasts in AllBegin (newest_force q.moments) q.undone) (sym c.self.view_is) c.requires.begin in
    omega (arith, gone_within a c.self.invariant c.args.count n some is begin, i.records.ok.0)

pub returns-clause-none : goal.returns-clause-none
returns-clause-none g c =
    let i = c.self.inside in
    let a : Held = held i.world i.records.items (deque_capacity i.records) i.moments.items i.standing i.gone in
    let n : ℕ = c.in_force_after-below.result in
    let some : c.args.count ≤ length a.moments = omega (arith, c.requires.within, ap (λ v. length v.pasts.moments) c.self.view_is, length-moments a) in
    let is : n ≡ length (newest_force (cut c.args.count (pasts_of a)).moments) = c.in_force_after-below.ensures ∙ sym (ap (λ v. length (newest_force (cut c.args.count v.pasts).moments)) c.self.view_is) in
    let begin : Begins a c.args.count = subst (λ v. let q = cut c.args.count v.pasts in AllBegin (newest_force q.moments) q.undone) (sym c.self.view_is) c.requires.begin in
    let lives : NoneRetired (base_of a) = subst NoneRetired (ap (λ v. v.pasts.base) (sym c.self.view_is) ∙ ap (λ p. p.base) (pasts_is a)) c.requires.lives in
    let both : (retire_none (take n a.records) ≡ true) ↔ NoneRetired (now (cut c.args.count (pasts_of a))) = none_at a c.self.invariant c.args.count n some is begin lives in
    subst (λ v. (c.retires_none.result ≡ true) ↔ NoneRetired (now (cut c.args.count v.pasts))) c.self.view_is
    ((λ e. both.0 (sym c.retires_none.ensures ∙ e)), (λ h. c.retires_none.ensures ∙ both.1 h))

pub returns-clause-stay : goal.returns-clause-stay
returns-clause-stay g c =
    let i = c.self.inside in
    let a : Held = held i.world i.records.items (deque_capacity i.records) i.moments.items i.standing i.gone in
    let n : ℕ = c.in_force_after-below.result in
    let some : c.args.count ≤ length a.moments = omega (arith, c.requires.within, ap (λ v. length v.pasts.moments) c.self.view_is, length-moments a) in
    let is : n ≡ length (newest_force (cut c.args.count (pasts_of a)).moments) = c.in_force_after-below.ensures ∙ sym (ap (λ v. length (newest_force (cut c.args.count v.pasts).moments)) c.self.view_is) in
    let begin : Begins a c.args.count = subst (λ v. let q = cut c.args.count v.pasts in AllBegin (newest_force q.moments) q.undone) (sym c.self.view_is) c.requires.begin in
    let from : StayIn (pasts_of a).base (now (cut c.args.count (pasts_of a))) =
    subst (λ s. StayIn s (now (cut c.args.count (pasts_of a)))) (sym (ap (λ p. p.base) (pasts_is a))) (from_base a c.self.invariant c.args.count n some is begin) in
    subst (λ v. StayIn v.pasts.base (now (cut c.args.count v.pasts))) c.self.view_is from
