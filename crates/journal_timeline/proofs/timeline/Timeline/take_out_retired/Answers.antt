use Rattle.std.proofs.Common.{◌≡◌, ℕ, ◌≤◌, not, length, filter, sym, ◌∙◌, ap, subst, arith, deque_capacity}
use Rattle.bt_roots.specs.declared.target.Target.TheVariants.{Map, Prog}
use Rattle.journal_model.specs.Plain.{now, newest_force, cut}
use Rattle.journal_moments.specs.Held.{Held, held, base_of, pasts_of}
use Rattle.journal_moments.specs.Rebased.{AllBegin}
use Rattle.journal_moments.specs.Retired.{has_retired, NoneRetired, StayIn}
use Rattle.journal_moments.proofs.AdvanceLemmas.{Begins, gone_within}
use Rattle.journal_moments.proofs.AscendLemmas.{filter-same}
use Rattle.journal_moments.proofs.HeldLemmas.{pasts_is}
use Rattle.journal_moments.proofs.NewestLemmas.{length-moments}
use Rattle.journal_moments.proofs.PastLemmas.{retired_at, stays}
use Rattle.journal_timeline.proofs.timeline.Timeline.take_out_retired.Goals as goal

pub take_out_retired-requires-clause-within : goal.take_out_retired-requires-clause-within
take_out_retired-requires-clause-within g c =
    let i = c.self.inside in
    let a : Held = held i.world i.records.items (deque_capacity i.records) i.moments.items i.standing i.gone in
    let n : ℕ = c.in_force_after-below.result in
    let some : c.args.count ≤ length a.moments = omega (arith, c.requires.within, ap (λ v. length v.pasts.moments) c.self.view_is, length-moments a) in
    let is : n ≡ length (newest_force (cut c.args.count (pasts_of a)).moments) = c.in_force_after-below.ensures ∙ sym (ap (λ v. length (newest_force (cut c.args.count v.pasts).moments)) c.self.view_is) in
    let begin : Begins a c.args.count = subst (λ v. let q = cut c.args.count v.pasts in AllBegin (newest_force q.moments) q.undone) (sym c.self.view_is) c.requires.begin in
    omega (arith, gone_within a c.self.invariant c.args.count n some is begin, i.records.ok.0)

pub returns-clause-maps : goal.returns-clause-maps
returns-clause-maps g c =
    let i = c.self.inside in
    let a : Held = held i.world i.records.items (deque_capacity i.records) i.moments.items i.standing i.gone in
    let n : ℕ = c.in_force_after-below.result in
    let some : c.args.count ≤ length a.moments = omega (arith, c.requires.within, ap (λ v. length v.pasts.moments) c.self.view_is, length-moments a) in
    let is : n ≡ length (newest_force (cut c.args.count (pasts_of a)).moments) = c.in_force_after-below.ensures ∙ sym (ap (λ v. length (newest_force (cut c.args.count v.pasts).moments)) c.self.view_is) in
    let begin : Begins a c.args.count = subst (λ v. let q = cut c.args.count v.pasts in AllBegin (newest_force q.moments) q.undone) (sym c.self.view_is) c.requires.begin in
    let lives : NoneRetired (base_of a) = subst NoneRetired (ap (λ v. v.pasts.base) (sym c.self.view_is) ∙ ap (λ p. p.base) (pasts_is a)) c.requires.lives in
    c.take_out_retired.ensures.maps
    ∙ filter-same _ _ (λ id. ap not (retired_at a c.self.invariant c.args.count n some is begin lives (Map id))) c.args.maps.now.items
    ∙ ap (λ v. filter (λ id. not (has_retired (now (cut c.args.count v.pasts)) (Map id))) c.args.maps.now.items) c.self.view_is

pub returns-clause-progs : goal.returns-clause-progs
returns-clause-progs g c =
    let i = c.self.inside in
    let a : Held = held i.world i.records.items (deque_capacity i.records) i.moments.items i.standing i.gone in
    let n : ℕ = c.in_force_after-below.result in
    let some : c.args.count ≤ length a.moments = omega (arith, c.requires.within, ap (λ v. length v.pasts.moments) c.self.view_is, length-moments a) in
    let is : n ≡ length (newest_force (cut c.args.count (pasts_of a)).moments) = c.in_force_after-below.ensures ∙ sym (ap (λ v. length (newest_force (cut c.args.count v.pasts).moments)) c.self.view_is) in
    let begin : Begins a c.args.count = subst (λ v. let q = cut c.args.count v.pasts in AllBegin (newest_force q.moments) q.undone) (sym c.self.view_is) c.requires.begin in
    let lives : NoneRetired (base_of a) = subst NoneRetired (ap (λ v. v.pasts.base) (sym c.self.view_is) ∙ ap (λ p. p.base) (pasts_is a)) c.requires.lives in
    c.take_out_retired.ensures.progs
    ∙ filter-same _ _ (λ id. ap not (retired_at a c.self.invariant c.args.count n some is begin lives (Prog id))) c.args.progs.now.items
    ∙ ap (λ v. filter (λ id. not (has_retired (now (cut c.args.count v.pasts)) (Prog id))) c.args.progs.now.items) c.self.view_is

pub returns-clause-stay : goal.returns-clause-stay
returns-clause-stay g c =
    let i = c.self.inside in
    let a : Held = held i.world i.records.items (deque_capacity i.records) i.moments.items i.standing i.gone in
    let n : ℕ = c.in_force_after-below.result in
    let some : c.args.count ≤ length a.moments = omega (arith, c.requires.within, ap (λ v. length v.pasts.moments) c.self.view_is, length-moments a) in
    let is : n ≡ length (newest_force (cut c.args.count (pasts_of a)).moments) = c.in_force_after-below.ensures ∙ sym (ap (λ v. length (newest_force (cut c.args.count v.pasts).moments)) c.self.view_is) in
    let begin : Begins a c.args.count = subst (λ v. let q = cut c.args.count v.pasts in AllBegin (newest_force q.moments) q.undone) (sym c.self.view_is) c.requires.begin in
    subst (λ v. StayIn (now (cut c.args.count v.pasts)) (now v.pasts)) c.self.view_is (stays a c.self.invariant c.args.count n some is begin)
