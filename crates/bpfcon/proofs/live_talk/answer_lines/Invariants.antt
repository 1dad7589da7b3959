use Rattle.std.proofs.Common.{◌≡◌}
use Rattle.bt_desk.specs.Seats.{IsSeatAt}
use Rattle.console_input.specs.Named.{AreFilesOf}
use Rattle.thread_live.specs.Footings.{footing}
use Rattle.bpfcon.specs.LiveTalk.{HasComeLive}
use Rattle.bpfcon.proofs.live_talk.answer_lines.Given as goal

abbrev pub decreases-lines : goal.decreases-lines
decreases-lines g l = l.left

abbrev pub invariant-lines : goal.invariant-lines
invariant-lines g l = record {
  seat : IsSeatAt l.desk l.seat;
  looker : IsSeatAt l.desk l.looker;
  most : l.operator.most_moments ≡ l.fn.operator.most_moments;
  came : HasComeLive g.S.Supply.gives g.K.MapKind.seen (AreFilesOf (g.R.FileReader.may_read l.rt)) l.desk l.traffic l.fn.operator.most_moments (g.I.Read.remaining l.fn.input)
      (footing l.fn.operator.session l.fn.seat (g.W.Output.contents l.fn.out)) l.fn.operator.summary (g.I.Read.remaining l.input) (footing l.operator.session l.seat (g.W.Output.contents l.out)) l.operator.summary;
}
