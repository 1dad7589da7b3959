use Rattle.std.proofs.Common.{◌≡◌, ◌<◌, List, length, sym, ◌∙◌, ap, arith, deque_capacity}
use Rattle.std.proofs.lemmas.List.{length-map}
use Rattle.journal_model.specs.Plain.{newest_force, cut}
use Rattle.journal_model.specs.Replay.{Entry}
use Rattle.journal_moments.specs.Held.{Held, held, pasts_of}
use Rattle.journal_moments.specs.Line.{entry_of}
use Rattle.journal_moments.specs.Lowered.{lowered}
use Rattle.journal_moments.specs.MomentView.{MomentView}
use Rattle.journal_moments.proofs.AdvanceLemmas.{cut_all, in_force_after, fits_room}
use Rattle.journal_moments.proofs.NewestLemmas.{length-moments, force-pasts_of}
use Rattle.journal_moments.proofs.StandingLemmas.{within, next_past}
use Rattle.journal_timeline.proofs.timeline.Timeline.in_force_after.Goals as goal

pub index-requires : goal.index-requires
index-requires g c =
    let i = c.self.inside in
    let a : Held = held i.world i.records.items (deque_capacity i.records) i.moments.items i.standing i.gone in
    omega (arith, c.if-count-self.false, c.requires, ap (λ v. length v.pasts.moments) c.self.view_is, length-moments a, c.self.invariant.counts, within (lowered i.gone) i.standing i.moments.items c.self.invariant.counts, i.moments.ok.0)

pub leaves-requires : goal.leaves-requires
leaves-requires g c =
    let i = c.self.inside in
    let a : Held = held i.world i.records.items (deque_capacity i.records) i.moments.items i.standing i.gone in
    let m : MomentView = c.index.result.now in
    let less : c.args.count < i.standing = omega (arith, c.if-count-self.false, c.requires, ap (λ v. length v.pasts.moments) c.self.view_is, length-moments a, c.self.invariant.counts) in
    let next = next_past (lowered i.gone) c.args.count i.standing i.moments.items m less (within (lowered i.gone) i.standing i.moments.items c.self.invariant.counts) c.index.ensures in
    omega (arith, fits_room a c.self.invariant c.args.count (lowered i.gone m) _ next, i.records.small.0)

pub returns-then-count-self : goal.returns-then-count-self
returns-then-count-self g c =
    let i = c.self.inside in
    let a : Held = held i.world i.records.items (deque_capacity i.records) i.moments.items i.standing i.gone in
    let all : c.args.count ≡ length (pasts_of a).moments = omega (arith, c.if-count-self.true, length-moments a, c.self.invariant.counts) in
    omega (arith, c.len.ensures, i.records.ok.0, length-map i.records.items entry_of, ap (λ (es : List Entry). length es) (force-pasts_of a c.self.invariant), ap (λ p. length (newest_force p.moments)) (cut_all c.args.count (pasts_of a) all), ap (λ v. length (newest_force (cut c.args.count v.pasts).moments)) c.self.view_is)

pub returns-else-count-self : goal.returns-else-count-self
returns-else-count-self g c =
    let i = c.self.inside in
    let a : Held = held i.world i.records.items (deque_capacity i.records) i.moments.items i.standing i.gone in
    let m : MomentView = c.index.result.now in
    let less : c.args.count < i.standing = omega (arith, c.if-count-self.false, c.requires, ap (λ v. length v.pasts.moments) c.self.view_is, length-moments a, c.self.invariant.counts) in
    let next = next_past (lowered i.gone) c.args.count i.standing i.moments.items m less (within (lowered i.gone) i.standing i.moments.items c.self.invariant.counts) c.index.ensures in
    c.leaves.ensures ∙ sym (in_force_after a c.self.invariant c.args.count (lowered i.gone m) _ next) ∙ ap (λ v. length (newest_force (cut c.args.count v.pasts).moments)) c.self.view_is
