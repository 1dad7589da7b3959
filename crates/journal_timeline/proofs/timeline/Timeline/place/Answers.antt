use Rattle.std.proofs.Common.{refl, ◌∙◌, ap, deque_capacity}
use Rattle.host_state.proofs.Growth.{Grows}
use Rattle.journal_moments.specs.Held.{Held, held}
use Rattle.journal_moments.proofs.HeldLemmas.{Sound-same, pasts_of-same, same_world}
use Rattle.journal_moments.proofs.GrownLemmas.{with_ready, Sound-grow, pasts_of-ready}
use Rattle.journal_moments.proofs.PlaceLemmas.{place_grows}
use Rattle.journal_timeline.proofs.timeline.Timeline.place.Goals as goal

pub invariant_of-self : goal.invariant_of-self
invariant_of-self g c =
    let i = c.self.inside in
    let w = c.place.new.self in
    let e = c.place.ensures in
    let a : Held = held i.world i.records.items (deque_capacity i.records) i.moments.items i.standing i.gone in
    let more : Grows i.world.ready w.ready = place_grows i.world.ready w.ready c.args.id _ c.place.result e.wrong_blank e.id_taken e.placed e.refused e.room e.progs in
    Sound-same (with_ready a w.ready) _ (Sound-grow a w.ready more c.self.invariant) (same_world (with_ready a w.ready) w e.state refl)

pub returns-clause-pasts : goal.returns-clause-pasts
returns-clause-pasts g c =
    let i = c.self.inside in
    let w = c.place.new.self in
    let e = c.place.ensures in
    let a : Held = held i.world i.records.items (deque_capacity i.records) i.moments.items i.standing i.gone in
    let more : Grows i.world.ready w.ready = place_grows i.world.ready w.ready c.args.id _ c.place.result e.wrong_blank e.id_taken e.placed e.refused e.room e.progs in
    pasts_of-same (with_ready a w.ready) _ (Sound-grow a w.ready more c.self.invariant) (same_world (with_ready a w.ready) w e.state refl)
    ∙ pasts_of-ready a w.ready ∙ ap (λ v. v.pasts) c.self.view_is
