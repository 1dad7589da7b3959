use Rattle.std.proofs.Common.{sym, subst}
use Rattle.journal_model.specs.Well.{IsWellBook}
use Rattle.bt_desk.proofs.Sitting.{seat_at}
use Rattle.bt_desk.proofs.desk.Desk.open.Goals as goal

pub returns-in-Ok-clause-seat : goal.returns-in-Ok-clause-seat
returns-in-Ok-clause-seat g c = seat_at record { turns = c.in-Ok.turns } c.in-Ok.seat c.in-Ok.ensures.seat c.in-Ok.ensures.seat.legal

pub returns-in-Ok-clause-well : goal.returns-in-Ok-clause-well
returns-in-Ok-clause-well g c = subst IsWellBook (sym c.in-Ok.ensures.opening) c.is_well.ensures
