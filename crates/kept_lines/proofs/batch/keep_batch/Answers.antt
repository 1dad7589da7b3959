use Rattle.std.proofs.Common.{Some, sym, ap, ◌∙◌}
use Rattle.console_operand.specs.Line.{lines_of}
use Rattle.console_script.specs.Frames.{console_of}
use Rattle.console_script.specs.Transcript.{batch_of, session_of}
use Rattle.console_script.specs.Tallies.{tallied_told, lines_told, accepted_told}
use Rattle.console_script.proofs.Told.{told_tallies, told_lines, told_accepts}
use Rattle.console_script.proofs.StepRuns.{leads_none, batch_more, at_end}
use Rattle.kept_lines.proofs.Further.{further_none, further_then, batch_leads}
use Rattle.kept_lines.proofs.batch.keep_batch.Goals as goal

pub lines-init : goal.lines-init
lines-init g c = record {
  leads = λ left. rw c.fresh-tally.ensures
      (leads_none g.S.Supply.gives g.K.MapKind.seen c.args.files.now c.args.supply.now
      (session_of (console_of c.args.book.now.plain c.args.runs.now) c.args.summary left (Some (batch_of (lines_of c.args.text.now)))) (Some c.args.group.now.text.items));
  notes = further_none c.args.book.now.plain c.args.group.now.events.items;
}

pub lines-preserved : goal.lines-preserved
lines-preserved g c =
    let it = c.in_ok-told.ensures.tells in
    record {
      leads = λ left. batch_more g.S.Supply.gives g.K.MapKind.seen c.args.files.now c.args.supply.now c.lines.supply c.keep_line.new.supply
          (session_of (console_of c.args.book.now.plain c.args.runs.now) c.args.summary left (Some (batch_of (lines_of c.args.text.now))))
          (Some c.args.group.now.text.items) (Some c.lines.group.text.items) (Some c.keep_line.new.group.text.items)
          (console_of c.lines.book.plain c.lines.runs) c.lines.tally left c.lines.rest.now c.lines.accepted (c.lines.invariant.leads left)
          c.first_line.result.0.now c.first_line.result.1.now (console_of c.keep_line.new.book.plain c.keep_line.new.runs) it.answer
          c.first_line.ensures.lines it.right
          c.rest_after.result.0.now c.rest_after.result.1 c.with_told-tally.result
          (c.rest_after.ensures.lines ∙ ap (lines_told (lines_of c.first_line.result.1.now)) it.tells ∙ told_lines (lines_of c.first_line.result.1.now) it.answer)
          (c.rest_after.ensures.accepted ∙ ap (accepted_told c.lines.accepted) it.tells ∙ told_accepts c.lines.accepted it.answer)
          (c.with_told-tally.ensures ∙ ap (tallied_told c.lines.tally) it.tells ∙ told_tallies c.lines.tally it.answer) it.wrote;
      notes = further_then c.args.book.now.plain c.lines.book.plain c.keep_line.new.book.plain c.args.group.now.events.items c.lines.group.events.items c.keep_line.new.group.events.items
          c.lines.invariant.notes c.in_ok-told.ensures.notes;
    }

pub returns-clause-leads : goal.returns-clause-leads
returns-clause-leads g c = λ left.
    batch_leads g.S.Supply.gives g.K.MapKind.seen c.args.files.now c.args.supply.now c.lines.supply c.lines.supply
    (session_of (console_of c.args.book.now.plain c.args.runs.now) c.args.summary left (Some (batch_of (lines_of c.args.text.now))))
    c.args.group.now.text.items c.lines.group.text.items c.tell.new.group.text.items
    (console_of c.lines.book.plain c.lines.runs) c.lines.tally left c.lines.rest.now c.lines.accepted (c.lines.invariant.leads left)
    c.tell.result (at_end c.lines.rest.now (sym c.is_empty.ensures ∙ c.lines-test.false)) c.tell.ensures.text c.tell.ensures.counts
