use Rattle.bt_desk.proofs.Promised.{takes_one_out_behind}
use Rattle.bt_desk.proofs.laws.one_change_of_any_seat_is_taken_out_alone.Goals as goal

pub returns : goal.returns
returns c = takes_one_out_behind
