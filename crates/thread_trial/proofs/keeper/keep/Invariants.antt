use Rattle.bt_desk.specs.Seats.{IsSeatAt}
use Rattle.thread_trial.specs.Kept.{Keeps}
use Rattle.thread_trial.proofs.keeper.keep.Given as goal

abbrev pub invariant-looks : goal.invariant-looks
invariant-looks g l = IsSeatAt l.desk l.seat × Keeps l.desk l.initial.seat l.seat
