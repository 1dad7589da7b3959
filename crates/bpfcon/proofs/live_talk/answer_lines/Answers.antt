use Rattle.std.proofs.Common.{refl, sym, ◌∙◌}
use Rattle.console_input.specs.Named.{AreFilesOf}
use Rattle.console_script.proofs.StepRuns.{at_end}
use Rattle.thread_live.specs.Footings.{footing}
use Rattle.console_talk.specs.declared.manner.Manner.TheVariants.{Dialogue}
use Rattle.console_talk.specs.Talk.{Ends}
use Rattle.console_talk.proofs.Spoken.{some_given, goes_on, ends_so, stops_at_end, stops_at_line}
use Rattle.bpfcon.proofs.SpokenLive.{come_live_none, come_live_more}
use Rattle.bpfcon.proofs.live_talk.answer_lines.Goals.{then-is_empty, else-is_empty+then-is_ended_by}
use Rattle.bpfcon.proofs.live_talk.answer_lines.Goals as goal

pub lines-init : goal.lines-init
lines-init g c = record {
  seat = c.requires.0;
  looker = c.requires.1;
  most = refl;
  came = come_live_none g.S.Supply.gives g.K.MapKind.seen (AreFilesOf (g.R.FileReader.may_read c.args.rt.now)) c.args.desk.now c.args.traffic.now c.args.operator.now.most_moments (g.I.Read.remaining c.args.input.now)
      (footing c.args.operator.now.session c.args.seat.now (g.W.Output.contents c.args.out.now)) c.args.operator.now.summary;
}

pub lines-preserved : goal.lines-preserved
lines-preserved g c = record {
  seat = c.hear.ensures.seat;
  looker = c.hear.ensures.looker;
  most = c.hear.ensures.most ∙ c.lines.invariant.most;
  came = come_live_more g.S.Supply.gives g.K.MapKind.seen (AreFilesOf (g.R.FileReader.may_read c.args.rt.now)) c.args.desk.now c.args.traffic.now c.args.operator.now.most_moments (g.I.Read.remaining c.args.input.now)
      (footing c.args.operator.now.session c.args.seat.now (g.W.Output.contents c.args.out.now)) c.args.operator.now.summary
      (g.I.Read.remaining c.lines.input) (g.I.Read.remaining c.read_line.new.input)
      (footing c.lines.operator.session c.lines.seat (g.W.Output.contents c.lines.out)) (footing c.hear.new.operator.session c.hear.new.seat (g.W.Output.contents c.hear.new.out))
      c.lines.operator.summary c.hear.new.operator.summary c.in_ok-hear.ensures.goes.0
      c.read_line.new.line.items c.first_line.result.0.now c.first_line.result.1.now c.lines.invariant.came c.in-Ok.ensures.line c.in-Ok.ensures.rest
      (rw c.as_slice-text.ensures.value at (some_given _ (sym c.is_empty.ensures ∙ c.if-is_empty.false)))
      (rw c.as_slice-text.ensures.value at c.first_line.ensures.lines)
      (goes_on c.is_ended_by.result (Ends Dialogue c.first_line.result.0.now) c.is_ended_by.ensures c.if-is_ended_by.false)
      c.lines.operator.most_moments c.lines.invariant.most c.in_ok-hear.ensures.goes.1;
}

pub returns-clause-talked : goal.returns-clause-talked
returns-clause-talked g c = record {
  unsaid = g.I.Read.remaining c.lines.input;
  came = c.lines.invariant.came;
  stops = elim c.if-is_empty.branch [
    | then-is_empty w ↦
        stops_at_end Dialogue (g.I.Read.remaining c.lines.input) c.read_line.new.line.items c.in-Ok.ensures.line
        (rw c.as_slice-text.ensures.value at (at_end _ (sym c.is_empty.ensures ∙ w.if-is_empty.true)))
    | else-is_empty+then-is_ended_by w ↦
        stops_at_line Dialogue (g.I.Read.remaining c.lines.input) c.read_line.new.line.items w.first_line.result.0.now w.first_line.result.1.now c.in-Ok.ensures.line
        (rw c.as_slice-text.ensures.value at (some_given _ (sym c.is_empty.ensures ∙ w.if-is_empty.false)))
        (rw c.as_slice-text.ensures.value at w.first_line.ensures.lines)
        (ends_so w.is_ended_by.result (Ends Dialogue w.first_line.result.0.now) w.is_ended_by.ensures w.if-is_ended_by.true)
  ];
}
