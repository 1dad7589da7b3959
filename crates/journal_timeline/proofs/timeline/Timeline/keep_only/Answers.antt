use Rattle.std.proofs.Common.{List, ℕ, sym, ◌∙◌, ap, subst, deque_capacity}
use Rattle.host_state.specs.World.{ListsAll, kept_ready}
use Rattle.journal_moments.specs.Held.{Held, held, pasts_of}
use Rattle.journal_moments.specs.Listed.{ListsPasts}
use Rattle.journal_moments.proofs.HeldLemmas.{Sound-same, pasts_of-same, same_world}
use Rattle.journal_moments.proofs.GrownLemmas.{with_ready, pasts_of-ready}
use Rattle.journal_moments.proofs.DropLemmas.{now_listed, Sound-kept}
use Rattle.host_state.proofs.Lasting.{kept_whole, live_listed}
use Rattle.journal_timeline.proofs.timeline.Timeline.keep_only.Goals as goal

pub drop_unreachable-requires-after_bounds : goal.drop_unreachable-requires-after_bounds
drop_unreachable-requires-after_bounds g c κs bounds =
    let i = c.self.inside in
    let a : Held = held i.world i.records.items (deque_capacity i.records) i.moments.items i.standing i.gone in
    let maps : List ℕ = c.args.keep.now.maps.items in
    let progs : List ℕ = c.args.keep.now.progs.items in
    let listed : ListsPasts maps progs (pasts_of a) = subst (λ v. ListsPasts maps progs v.pasts) (sym c.self.view_is) c.requires in
    live_listed maps progs i.world.state (now_listed maps progs a c.self.invariant listed)

pub invariant_of-self : goal.invariant_of-self
invariant_of-self g c =
    let i = c.self.inside in
    let w = c.drop_unreachable.new.self in
    let a : Held = held i.world i.records.items (deque_capacity i.records) i.moments.items i.standing i.gone in
    let maps : List ℕ = c.args.keep.now.maps.items in
    let progs : List ℕ = c.args.keep.now.progs.items in
    let listed : ListsPasts maps progs (pasts_of a) = subst (λ v. ListsPasts maps progs v.pasts) (sym c.self.view_is) c.requires in
    let there : ListsAll maps progs i.world.state = now_listed maps progs a c.self.invariant listed in
    let k : Held = with_ready a (kept_ready maps progs i.world.ready) in
    Sound-same k _ (Sound-kept maps progs a listed c.self.invariant)
    (same_world k w (c.drop_unreachable.ensures.state ∙ kept_whole maps progs i.world.state there) c.drop_unreachable.ensures.ready)

pub returns-clause-pasts : goal.returns-clause-pasts
returns-clause-pasts g c =
    let i = c.self.inside in
    let w = c.drop_unreachable.new.self in
    let a : Held = held i.world i.records.items (deque_capacity i.records) i.moments.items i.standing i.gone in
    let maps : List ℕ = c.args.keep.now.maps.items in
    let progs : List ℕ = c.args.keep.now.progs.items in
    let listed : ListsPasts maps progs (pasts_of a) = subst (λ v. ListsPasts maps progs v.pasts) (sym c.self.view_is) c.requires in
    let there : ListsAll maps progs i.world.state = now_listed maps progs a c.self.invariant listed in
    let k : Held = with_ready a (kept_ready maps progs i.world.ready) in
    pasts_of-same k _ (Sound-kept maps progs a listed c.self.invariant)
    (same_world k w (c.drop_unreachable.ensures.state ∙ kept_whole maps progs i.world.state there) c.drop_unreachable.ensures.ready)
    ∙ pasts_of-ready a (kept_ready maps progs i.world.ready) ∙ ap (λ v. v.pasts) c.self.view_is
