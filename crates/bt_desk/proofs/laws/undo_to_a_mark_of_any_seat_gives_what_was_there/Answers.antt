use Rattle.bt_desk.proofs.Promised.{returns_to_mark_of_any}
use Rattle.bt_desk.proofs.laws.undo_to_a_mark_of_any_seat_gives_what_was_there.Goals as goal

pub returns : goal.returns
returns c = returns_to_mark_of_any
