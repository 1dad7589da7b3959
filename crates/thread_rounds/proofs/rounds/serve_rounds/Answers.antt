use Rattle.std.proofs.Common.{◌-◌, ◌^◌, ◌<◌, sym, subst}
use Rattle.thread_rounds.specs.declared.place.Place.{Place}
use Rattle.thread_rounds.specs.Rounds.{ServesRounds}
use Rattle.thread_rounds.proofs.Turns.{to_do, no_turn, turn_to}
use Rattle.thread_rounds.proofs.rounds.serve_rounds.Goals as goal

pub turns-init : goal.turns-init
turns-init g c = record {
  seat = c.requires.seat;
  served = subst (λ place. ServesRounds c.args.share c.args.frames.now c.args.passes c.args.seat.now place c.args.seat.now) (sym c.start-place.ensures)
      (no_turn c.args.share c.args.frames.now c.args.passes c.args.seat.now);
  from_one = subst (λ (place : Place). 0 < place.number) (sym c.start-place.ensures) c.args.share.from_one;
}

pub turns-preserved : goal.turns-preserved
turns-preserved g c =
    let served = c.serve_copy-end.ensures in record {
      seat = served.seat;
      served = turn_to c.args.share c.args.frames.now c.args.passes c.args.seat.now c.turns.place c.turns.seat c.serve_copy-end.result c.after-place.result c.serve_copy-end.new.seat c.after-place.ensures.place
          (to_do c.args.passes (2 ^ 64 - 1) c.unwrap_or-most.result c.turns.place.pass c.unwrap_or-most.ensures c.if-not-goes_on.ensures.0)
          c.turns.invariant.served served.served served.left_out;
      from_one = c.after-place.ensures.from_one;
    }
