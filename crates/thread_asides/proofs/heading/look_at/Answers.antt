use Rattle.std.proofs.Common.{sym, subst}
use Rattle.thread_lock.specs.Seats.{IsSeatOf}
use Rattle.bt_desk.proofs.Sitting.{seat_at}
use Rattle.thread_asides.proofs.heading.look_at.Goals as goal

pub visit-held-requires-clause-seat : goal.visit-held-requires-clause-seat
visit-held-requires-clause-seat g c = subst (λ turns. IsSeatOf turns c.args.seat.now) (sym c.turns.ensures) c.requires.of

pub returns-clause-seat : goal.returns-clause-seat
returns-clause-seat g c =
    let sits = subst (λ turns. IsSeatOf turns c.visit-held.new.seat) c.turns.ensures c.visit-held.ensures.seat in
    seat_at c.args.desk.now c.visit-held.new.seat sits sits.legal
