use Rattle.std.proofs.Common.{◌≡◌, ◌++◌, sym, subst}
use Rattle.thread_lock.specs.History.{Leads}
use Rattle.thread_lock.specs.Seats.{IsSeatOf, opening, seen}
use Rattle.console_reference.specs.References.{ToldUnlessRefused}
use Rattle.console_script.specs.Frames.{run_on}
use Rattle.bt_desk.specs.Events.{Steps}
use Rattle.bt_desk.proofs.Sitting.{seat_at}
use Rattle.bt_desk.proofs.Visiting.{if_ok, does_so, visited_at}
use Rattle.thread_at_desk.proofs.frame.begin_at.Goals as goal

pub visit-requires-clause-seat : goal.visit-requires-clause-seat
visit-requires-clause-seat g c = subst (λ turns. IsSeatOf turns c.args.seat.now) (sym c.turns.ensures) c.requires.of

pub returns-clause-seat : goal.returns-clause-seat
returns-clause-seat g c =
    let sits = subst (λ turns. IsSeatOf turns c.visit.new.seat) c.turns.ensures c.visit.ensures.seat in
    seat_at c.args.desk.now c.visit.new.seat sits sits.legal

pub returns-clause-began : goal.returns-clause-began
returns-clause-began g c =
    if_ok _ _ c.visit.result
    (λ begun it. visited_at c.args.desk.now _ c.args.seat.now c.visit.new.seat it.event it.answer it.called it.before it.after
    (subst (λ turns. Leads Steps (opening turns) (seen c.args.seat.now ++ it.called.between) it.before) c.turns.ensures it.found) it.does
    (does_so _ _ _ begun _ it.before it.after (λ from before told after to. (after ≡ before) × ToldUnlessRefused (run_on before c.args.frame) told) (λ shown left handed returned met. (met.0, met.1.0)) it.went))
    c.visit.ensures.visited
