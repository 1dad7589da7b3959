use Rattle.std.proofs.Common.{Some, sym, ap, ◌∙◌}
use Rattle.console_operand.specs.Line.{lines_of}
use Rattle.console_script.specs.Frames.{console_of}
use Rattle.console_script.specs.Transcript.{batch_of, session_of}
use Rattle.console_script.specs.Tallies.{tallied_told, lines_told, accepted_told}
use Rattle.console_script.proofs.Told.{told_tallies, told_lines, told_accepts}
use Rattle.console_script.proofs.StepRuns.{leads_none, batch_more, batch_failed, batch_over, at_end}
use Rattle.console_script.proofs.batch.run_batch.Goals as goal

pub lines-init : goal.lines-init
lines-init g c = λ left. rw c.fresh-tally.ensures
    (leads_none g.S.Supply.gives g.K.MapKind.seen c.args.files.now c.args.supply.now
    (session_of (console_of c.args.book.now.plain c.args.runs.now) c.args.summary left (Some (batch_of (lines_of c.args.text.now)))) (g.W.Output.contents c.args.out.now))

pub lines-preserved : goal.lines-preserved
lines-preserved g c = λ left.
    let it = c.in-Ok.ensures.tells in
    batch_more g.S.Supply.gives g.K.MapKind.seen c.args.files.now c.args.supply.now c.lines.supply c.tell_line.new.supply
    (session_of (console_of c.args.book.now.plain c.args.runs.now) c.args.summary left (Some (batch_of (lines_of c.args.text.now))))
    (g.W.Output.contents c.args.out.now) (g.W.Output.contents c.lines.out) (g.W.Output.contents c.tell_line.new.out)
    (console_of c.lines.book.plain c.lines.runs) c.lines.tally left c.lines.rest.now c.lines.accepted (c.lines.invariant left)
    c.first_line.result.0.now c.first_line.result.1.now (console_of c.tell_line.new.book.plain c.tell_line.new.runs) it.answer
    c.first_line.ensures.lines it.right
    c.rest_behind-rest.result.now c.accepted_behind-accepted.result c.with_told-tally.result
    (c.rest_behind-rest.ensures.lines ∙ ap (lines_told (lines_of c.first_line.result.1.now)) it.tells ∙ told_lines (lines_of c.first_line.result.1.now) it.answer)
    (c.accepted_behind-accepted.ensures ∙ ap (accepted_told c.lines.accepted) it.tells ∙ told_accepts c.lines.accepted it.answer)
    (c.with_told-tally.ensures ∙ ap (tallied_told c.lines.tally) it.tells ∙ told_tallies c.lines.tally it.answer) it.wrote

pub returns-in-Err-clause-leads : goal.returns-in-Err-clause-leads
returns-in-Err-clause-leads g c = λ left.
    let it = c.in-Err.ensures.tells in
    batch_failed g.S.Supply.gives g.K.MapKind.seen c.args.files.now c.args.supply.now c.lines.supply c.tell_line.new.supply
    (session_of (console_of c.args.book.now.plain c.args.runs.now) c.args.summary left (Some (batch_of (lines_of c.args.text.now))))
    (g.W.Output.contents c.args.out.now) (g.W.Output.contents c.lines.out) (g.W.Output.contents c.tell_line.new.out)
    (console_of c.lines.book.plain c.lines.runs) c.lines.tally left c.lines.rest.now c.lines.accepted (c.lines.invariant left)
    c.first_line.result.0.now c.first_line.result.1.now (console_of c.tell_line.new.book.plain c.tell_line.new.runs) it.answer
    c.first_line.ensures.lines it.right it.wrote

pub returns-clause-leads : goal.returns-clause-leads
returns-clause-leads g c = λ left.
    batch_over g.S.Supply.gives g.K.MapKind.seen c.args.files.now c.args.supply.now c.lines.supply c.lines.supply
    (session_of (console_of c.args.book.now.plain c.args.runs.now) c.args.summary left (Some (batch_of (lines_of c.args.text.now))))
    (g.W.Output.contents c.args.out.now) (g.W.Output.contents c.lines.out) (g.W.Output.contents c.tell.new.out)
    (console_of c.lines.book.plain c.lines.runs) c.lines.tally left c.lines.rest.now c.lines.accepted (c.lines.invariant left)
    c.tell.result (at_end c.lines.rest.now (sym c.is_empty.ensures ∙ c.lines-test.false)) c.tell.ensures.text c.tell.ensures.counts
