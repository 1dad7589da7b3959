use Rattle.bt_desk.proofs.Sitting.{seat_at}
use Rattle.bt_desk.proofs.desk.Desk.split.Goals as goal

pub returns-clause-seats : goal.returns-clause-seats
returns-clause-seats g c =
    let both = c.split.ensures.seats in
    (seat_at c.args.self.now c.split.new.seat both.0 both.0.legal, seat_at c.args.self.now c.split.result both.1 both.1.legal)
