use Rattle.bt_desk.specs.Seats.{IsSeatAt}
use Rattle.test_workers.proofs.at_desk.lines_answer_as_in_a_script_until_the_seat_is_spent.Given as goal

abbrev pub invariant-loop-line : goal.invariant-loop-line
invariant-loop-line g l = IsSeatAt l.desk l.seat
