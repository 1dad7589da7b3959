use Rattle.bt_desk.proofs.Sitting.{seat_at}
use Rattle.bt_desk.proofs.desk.Desk.serve.Goals as goal

pub returns-clause-seat : goal.returns-clause-seat
returns-clause-seat g c = seat_at c.args.self.now c.call_lent.new.seat c.call_lent.ensures.seat c.call_lent.ensures.seat.legal
