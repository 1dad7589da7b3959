use Rattle.std.proofs.Common.{◌≡◌, ◌++◌, sym, subst}
use Rattle.std.specs.Prelude.{IfOk}
use Rattle.thread_lock.specs.History.{Leads}
use Rattle.thread_lock.specs.Seats.{IsSeatOf, opening, seen}
use Rattle.bt_desk.specs.Events.{Steps}
use Rattle.bt_desk.proofs.Sitting.{seat_at}
use Rattle.bt_desk.proofs.Visiting.{if_ok, does_so, visited_at}
use Rattle.thread_asides.specs.Looked.{out_in}
use Rattle.thread_asides.proofs.Looking.{if_seen}
use Rattle.thread_asides.proofs.looked.look_out_at.Goals as goal

pub visit-requires-clause-seat : goal.visit-requires-clause-seat
visit-requires-clause-seat g c = subst (λ turns. IsSeatOf turns c.args.seat.now) (sym c.turns.ensures) c.requires.of

pub returns-clause-seat : goal.returns-clause-seat
returns-clause-seat g c =
    let sits = subst (λ turns. IsSeatOf turns c.visit.new.seat) c.turns.ensures c.visit.ensures.seat in
    seat_at c.args.desk.now c.visit.new.seat sits sits.legal

pub returns-clause-found : goal.returns-clause-found
returns-clause-found g c =
    if_ok _ _ c.visit.result
    (λ looked it. if_seen c.args.desk.now (λ b found. found ≡ out_in c.args.serial b) c.args.seat.now c.visit.new.seat looked
    (visited_at c.args.desk.now _ c.args.seat.now c.visit.new.seat it.event it.answer it.called it.before it.after
    (subst (λ turns. Leads Steps (opening turns) (seen c.args.seat.now ++ it.called.between) it.before) c.turns.ensures it.found) it.does
    (does_so _ _ _ looked _ it.before it.after (λ from before told after to. (after ≡ before) × IfOk told (λ it. it ≡ out_in c.args.serial before)) (λ seen left handed returned met. (met.0, met.1.0)) it.went)))
    c.visit.ensures.visited
