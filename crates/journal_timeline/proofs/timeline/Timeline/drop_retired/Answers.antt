use Rattle.std.proofs.Common.{List, ℕ, sym, ◌∙◌, ap, subst, refl, deque_capacity}
use Rattle.journal_moments.specs.Held.{Held, held}
use Rattle.journal_moments.specs.Rebased.{ListsAllLeft, kept_pasts}
use Rattle.journal_moments.proofs.DropLeftLemmas.{now_left, Sound-left, pasts_of-left}
use Rattle.journal_timeline.proofs.timeline.Timeline.drop_retired.Goals as goal

pub drop_unreachable-requires-after_bounds : goal.drop_unreachable-requires-after_bounds
drop_unreachable-requires-after_bounds g c κs bounds =
    let i = c.self.inside in
    let a : Held = held i.world i.records.items (deque_capacity i.records) i.moments.items i.standing i.gone in
    let maps : List ℕ = c.args.keep.now.maps.items in
    let progs : List ℕ = c.args.keep.now.progs.items in
    now_left maps progs a c.self.invariant (subst (λ v. ListsAllLeft maps progs v.pasts) (sym c.self.view_is) c.requires)

pub invariant_of-self : goal.invariant_of-self
invariant_of-self g c =
    let i = c.self.inside in
    let a : Held = held i.world i.records.items (deque_capacity i.records) i.moments.items i.standing i.gone in
    let b : Held = held c.drop_unreachable.new.self i.records.items (deque_capacity i.records) i.moments.items i.standing i.gone in
    let maps : List ℕ = c.args.keep.now.maps.items in
    let progs : List ℕ = c.args.keep.now.progs.items in
    Sound-left maps progs a b c.self.invariant (subst (λ v. ListsAllLeft maps progs v.pasts) (sym c.self.view_is) c.requires)
    (record {
      state = c.drop_unreachable.ensures.state;
      joins = c.drop_unreachable.ensures.joins;
      records = refl;
      moments = refl;
      undone = refl;
      room = refl;
      standing = refl;
    })

pub returns-clause-pasts : goal.returns-clause-pasts
returns-clause-pasts g c =
    let i = c.self.inside in
    let a : Held = held i.world i.records.items (deque_capacity i.records) i.moments.items i.standing i.gone in
    let b : Held = held c.drop_unreachable.new.self i.records.items (deque_capacity i.records) i.moments.items i.standing i.gone in
    let maps : List ℕ = c.args.keep.now.maps.items in
    let progs : List ℕ = c.args.keep.now.progs.items in
    pasts_of-left maps progs a b c.self.invariant (subst (λ v. ListsAllLeft maps progs v.pasts) (sym c.self.view_is) c.requires)
    (record {
      state = c.drop_unreachable.ensures.state;
      joins = c.drop_unreachable.ensures.joins;
      records = refl;
      moments = refl;
      undone = refl;
      room = refl;
      standing = refl;
    })
    ∙ ap (λ v. kept_pasts maps progs v.pasts) c.self.view_is
