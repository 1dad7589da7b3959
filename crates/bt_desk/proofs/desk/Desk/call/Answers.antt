use Rattle.bt_desk.proofs.Sitting.{seat_at}
use Rattle.bt_desk.proofs.desk.Desk.call.Goals as goal

pub returns-clause-seat : goal.returns-clause-seat
returns-clause-seat g c = seat_at c.args.self.now c.call.new.seat c.call.ensures.seat c.call.ensures.seat.legal
