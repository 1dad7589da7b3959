use Rattle.std.proofs.Common.{sym, ◌∙◌, None}
use Rattle.console_operand.specs.Line.{lines_of}
use Rattle.bt_console.specs.Frames.{console_of}
use Rattle.console_script.specs.Transcript.{begun}
use Rattle.console_script.proofs.StepRuns.{leads_none, script_more, ran_all, at_end}
use Rattle.bpfcon.proofs.lines.run_lines.Goals as goal

pub lines-init : goal.lines-init
lines-init g c = rw (c.new-dialogue.ensures, c.as_slice-rest.ensures.value)
    (None, leads_none g.S.Supply.gives g.K.MapKind.seen c.args.script.now.files.items c.args.supply.now (begun c.args.book.now.plain (lines_of c.args.script.now.text.items)) (g.W.Output.contents c.args.out.now))

pub lines-preserved : goal.lines-preserved
lines-preserved g c = (
  _,
  script_more g.S.Supply.gives g.K.MapKind.seen c.args.script.now.files.items c.args.supply.now c.lines.supply c.answer.new.supply (begun c.args.book.now.plain (lines_of c.args.script.now.text.items))
      (g.W.Output.contents c.args.out.now) (g.W.Output.contents c.lines.out) (g.W.Output.contents c.answer.new.out) (console_of c.lines.book.plain c.lines.dialogue.runs)
      (console_of c.answer.new.book.plain c.answer.new.dialogue.runs) c.lines.dialogue.summary c.lines.rest.now c.first_line.result.0.now c.first_line.result.1.now c.lines.invariant.1 c.first_line.ensures.lines
      c.answer.new.dialogue.summary (rw c.as_slice-files.ensures.value at (c.in_ok-answer.ensures.done (lines_of c.first_line.result.1.now)).1),
)

pub returns-clause-ran : goal.returns-clause-ran
returns-clause-ran g c =
    rw c.summary.ensures (ran_all g.S.Supply.gives g.K.MapKind.seen c.args.script.now.files.items c.args.supply.now c.lines.supply (g.W.Output.contents c.args.out.now) (g.W.Output.contents c.lines.out) c.args.book.now.plain c.args.script.now.text.items
    c.lines.rest.now (console_of c.lines.book.plain c.lines.dialogue.runs) c.lines.dialogue.summary c.lines.invariant.1 (at_end c.lines.rest.now (sym c.is_empty.ensures ∙ c.lines-test.false)))
