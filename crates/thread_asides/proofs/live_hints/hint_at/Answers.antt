use Rattle.std.proofs.Common.{sym, subst}
use Rattle.thread_lock.specs.Seats.{IsSeatOf}
use Rattle.bt_desk.proofs.Sitting.{seat_at}
use Rattle.thread_asides.proofs.live_hints.hint_at.Goals as goal

pub visit-looked-requires-clause-seat : goal.visit-looked-requires-clause-seat
visit-looked-requires-clause-seat g c = subst (λ turns. IsSeatOf turns c.args.seat.now) (sym c.turns.ensures) c.requires.of

pub returns : goal.returns
returns g c =
    let sits = subst (λ turns. IsSeatOf turns c.visit-looked.new.seat) c.turns.ensures c.visit-looked.ensures.seat in
    seat_at c.args.desk.now c.visit-looked.new.seat sits sits.legal
