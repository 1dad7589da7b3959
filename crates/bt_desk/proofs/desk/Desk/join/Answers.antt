use Rattle.bt_desk.proofs.Sitting.{seat_at}
use Rattle.bt_desk.proofs.desk.Desk.join.Goals as goal

pub returns-clause-seat : goal.returns-clause-seat
returns-clause-seat g c = seat_at c.args.self.now c.join.new.seat c.join.ensures.seat c.join.ensures.seat.legal
