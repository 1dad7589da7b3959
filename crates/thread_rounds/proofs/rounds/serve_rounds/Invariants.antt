use Rattle.std.proofs.Common.{◌<◌}
use Rattle.bt_desk.specs.Seats.{IsSeatAt}
use Rattle.thread_rounds.specs.Rounds.{ServesRounds}
use Rattle.thread_rounds.proofs.rounds.serve_rounds.Given as goal

abbrev pub invariant-turns : goal.invariant-turns
invariant-turns g l = record {
  seat : IsSeatAt l.desk l.seat;
  served : ServesRounds l.fn.share l.frames l.fn.passes l.initial.seat l.place l.seat;
  from_one : 0 < l.place.number;
}
