use Rattle.std.proofs.Common.{length}
use Rattle.console_operand.specs.Line.{lines_of}
use Rattle.bt_desk.specs.Seats.{IsSeatAt}
use Rattle.thread_live.specs.Footings.{footing}
use Rattle.thread_live.specs.Lines.{BatchComes}
use Rattle.thread_live.proofs.batch.batch_at.Given as goal

abbrev pub decreases-lines : goal.decreases-lines
decreases-lines g l = length l.rest

abbrev pub invariant-lines : goal.invariant-lines
invariant-lines g l = record {
  seat : IsSeatAt l.desk l.seat;
  comes : BatchComes g.S.Supply.gives g.K.MapKind.seen l.files l.desk (lines_of l.fn.text) l.fn.summary (footing l.fn.session l.fn.seat (g.W.Output.contents l.fn.out)) (lines_of l.rest) l.accepted l.tally
      (footing l.session l.seat (g.W.Output.contents l.out));
}
