use Rattle.std.proofs.Common.{rules, nat_eq, ap, sym, ◌∙◌, subst, ◌++◌}
use Rattle.std.specs.List.{IsDistinct}
use Rattle.thread_lock.proofs.Numbers.{distinct_parts, not_true}
use Rattle.thread_lock.proofs.Steady.{stays_at_load}
use Rattle.thread_lock.proofs.Splitting.{lends, returns}
use Rattle.thread_lock.proofs.Joining.{merges}
use Rattle.thread_lock.proofs.turns.Turns.compare.Goals as goal

pub split_seat-lent-requires : goal.split_seat-lent-requires
split_seat-lent-requires g c = (search rules, search rules, lends g.S.Sequential.steps _ _ _)

pub join_seat-requires : goal.join_seat-requires
join_seat-requires g c =
    let lent = c.split_seat-lent.ensures.4 in
    (search rules, search rules, search rules, search rules, merges g.S.Sequential.steps _ _ _ _ _ c.requires.idle.0 (ap (λ m. m.0.stage) lent) (c.requires.seen ∙ sym (ap (λ m. m.0.seen) lent)))

pub load-requires : goal.load-requires
load-requires g c = (search rules, search rules, stays_at_load g.S.Sequential.steps _ _ _ _ _)

pub split_seat-back-requires : goal.split_seat-back-requires
split_seat-back-requires g c =
    let joined = c.load.ensures.2.is ∙ c.join_seat.ensures.2 in
    (search rules, search rules, returns g.S.Sequential.steps _ _ _ c.args.a.now.me.0.numbers (ap (λ m. m.0.numbers) joined ∙ ap (λ ns. c.args.a.now.me.0.numbers ++ ns) (sym (ap (λ m. m.0.taken) joined))))

pub join_seat-requires-2 : goal.join_seat-requires-2
join_seat-requires-2 g c =
    let bare = c.split_seat-lent.ensures.2 in
    let back = c.split_seat-back.ensures.4 in
    let joined = c.load.ensures.2.is ∙ c.join_seat.ensures.2 in
    (search rules, search rules, search rules, search rules, merges g.S.Sequential.steps _ _ _ _ _ (ap (λ m. m.0.stage) bare ∙ c.requires.idle.1) (ap (λ m. m.0.stage) back) (ap (λ m. m.0.seen) bare ∙ sym (ap (λ m. m.0.seen) back ∙ ap (λ m. m.0.seen) joined ∙ c.requires.seen)))

pub returns-clause-apart : goal.returns-clause-apart
returns-clause-apart g c n mine =
    let joined = c.load.ensures.2.is ∙ c.join_seat.ensures.2 in
    let lent = c.split_seat-lent.ensures.4 in
    let both = ap (λ m. m.0.numbers) joined ∙ ap (λ m. c.args.a.now.me.0.numbers ++ m.0.numbers) lent in
    let parts = distinct_parts c.args.a.now.me.0.numbers c.args.b.now.me.0.numbers (subst (IsDistinct nat_eq) both (subst (λ m. IsDistinct nat_eq m.0.numbers) (sym c.load.ensures.2.is) c.load.ensures.2.distinct)) in
    not_true _ (λ theirs. parts.apart n mine theirs)
