use Rattle.std.proofs.Common.{refl, sym, ap, ◌∙◌}
use Rattle.console_operand.specs.Line.{lines_of}
use Rattle.console_script.proofs.StepRuns.{at_end}
use Rattle.thread_live.specs.Footings.{footing}
use Rattle.thread_live.proofs.Batching.{batch_begins, batch_comes, batch_goes}
use Rattle.thread_live.proofs.batch.batch_at.Goals as goal

pub lines-init : goal.lines-init
lines-init g c = record {
  seat = c.requires;
  comes = batch_begins g.S.Supply.gives g.K.MapKind.seen c.args.files.now c.args.desk.now (lines_of c.args.text.now) c.args.summary (footing c.args.session.now c.args.seat.now (g.W.Output.contents c.args.out.now)) c.fresh-tally.result c.fresh-tally.ensures;
}

pub lines-preserved : goal.lines-preserved
lines-preserved g c = record {
  seat = c.told_at.ensures.seat;
  comes = batch_comes g.S.Supply.gives g.K.MapKind.seen c.args.files.now c.args.desk.now (lines_of c.args.text.now) c.args.summary (footing c.args.session.now c.args.seat.now (g.W.Output.contents c.args.out.now))
      (lines_of c.lines.rest.now) c.first_line.result.0.now (lines_of c.first_line.result.1.now) (lines_of c.rest_behind-rest.result.now) c.lines.accepted c.accepted_behind-accepted.result c.lines.tally c.with_told-tally.result
      (footing c.lines.session c.lines.seat (g.W.Output.contents c.lines.out)) c.in_ok-told.told (footing c.told_at.new.session c.told_at.new.seat (g.W.Output.contents c.told_at.new.out))
      c.lines.invariant.comes c.first_line.ensures.lines c.in_ok-told.ensures.does c.rest_behind-rest.ensures.lines c.accepted_behind-accepted.ensures c.with_told-tally.ensures;
}

pub returns-in-Ok-clause-goes : goal.returns-in-Ok-clause-goes
returns-in-Ok-clause-goes g c =
    batch_goes g.S.Supply.gives g.K.MapKind.seen c.args.files.now c.args.desk.now (lines_of c.args.text.now) c.args.summary (footing c.args.session.now c.args.seat.now (g.W.Output.contents c.args.out.now))
    (lines_of c.lines.rest.now) c.lines.accepted c.lines.tally c.with_told.result (footing c.lines.session c.lines.seat (g.W.Output.contents c.lines.out))
    (footing c.lines.session c.lines.seat (g.W.Output.contents c.tell_answer.new.out)) c.in-Ok.told c.lines.invariant.comes (ap lines_of (at_end c.lines.rest.now (sym c.is_empty.ensures ∙ c.lines-test.false)))
    (record { session = refl; seat = refl; wrote = c.in-Ok.ensures.wrote }) c.in-Ok.ensures.told c.with_told.ensures
