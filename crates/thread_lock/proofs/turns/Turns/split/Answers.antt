use Rattle.std.proofs.Common.{rules, ap, ◌∙◌}
use Rattle.thread_lock.specs.Seats.{opening}
use Rattle.thread_lock.proofs.Steady.{gets_number}
use Rattle.thread_lock.proofs.Splitting.{halves}
use Rattle.thread_lock.proofs.Sitting.{Sits, sits, seat_of, sits_along, sits_halved, sits_new}
use Rattle.thread_lock.proofs.turns.Turns.split.Goals as goal

pub split_seat-place-requires : goal.split_seat-place-requires
split_seat-place-requires g c = (search rules, search rules, halves g.S.Sequential.steps _ _ _)

pub load-requires : goal.load-requires
load-requires g c = (search rules, search rules, gets_number g.S.Sequential.steps _ _ _ _ _ (ap (λ m. m.0.stage) c.split_seat-place.ensures.4))

pub returns-clause-seats : goal.returns-clause-seats
returns-clause-seats g c =
    let split = c.split_seat-place.ensures in
    let old : Sits g.S.Sequential.steps (opening c.args.self.now) c.args.seat.now.place.me.0 = sits c.args.self.now c.args.seat.now c.requires in (
      seat_of c.args.self.now _ (split.0 ∙ c.requires.table) (sits_along _ _ _ _ (ap (λ m. m.0) split.2) (sits_halved _ _ _ old)),
      seat_of c.args.self.now _ (c.load.ensures.0 ∙ (split.3 ∙ c.requires.table)) (sits_new _ _ c.args.seat.now.place.me.0 _ _ split.4 c.load.ensures.2 old),
    )
