use Rattle.std.proofs.Common.{None, sym, ◌∙◌}
use Rattle.console_operand.specs.Line.{lines_of}
use Rattle.console_script.specs.Frames.{console_of}
use Rattle.console_script.specs.Transcript.{begun}
use Rattle.console_script.proofs.StepRuns.{leads_none, script_more, script_failed, ran_all, ran_to, at_end}
use Rattle.console_script.proofs.script.run_script.Goals as goal

pub lines-init : goal.lines-init
lines-init g c = rw (c.new-dialogue.ensures, c.as_slice-rest.ensures.value)
    (None, leads_none g.S.Supply.gives g.K.MapKind.seen c.args.script.now.files.items c.args.supply.now (begun c.args.book.now.plain (lines_of c.args.script.now.text.items)) (g.W.Output.contents c.args.out.now))

pub lines-preserved : goal.lines-preserved
lines-preserved g c = (
  _,
  rw c.in-Ok.ensures.counts at (script_more g.S.Supply.gives g.K.MapKind.seen c.args.script.now.files.items c.args.supply.now c.lines.supply c.run.new.supply (begun c.args.book.now.plain (lines_of c.args.script.now.text.items))
      (g.W.Output.contents c.args.out.now) (g.W.Output.contents c.lines.out) (g.W.Output.contents c.run.new.out) (console_of c.lines.book.plain c.lines.dialogue.runs)
      (console_of c.run.new.book.plain c.run.new.self.runs) c.lines.dialogue.summary c.lines.rest.now c.first_line.result.0.now c.first_line.result.1.now c.lines.invariant.1 c.first_line.ensures.lines
      c.in-Ok.field-0.summary (rw c.as_slice.ensures.value at (c.in-Ok.ensures.leads (lines_of c.first_line.result.1.now)))),
)

pub returns-in-Err-clause-ran : goal.returns-in-Err-clause-ran
returns-in-Err-clause-ran g c =
    ran_to g.S.Supply.gives g.K.MapKind.seen c.args.script.now.files.items c.args.supply.now c.run.new.supply (g.W.Output.contents c.args.out.now) (g.W.Output.contents c.run.new.out) c.args.book.now.plain c.args.script.now.text.items
    c.run.new.book.plain
    (script_failed g.S.Supply.gives g.K.MapKind.seen c.args.script.now.files.items c.args.supply.now c.lines.supply c.run.new.supply (begun c.args.book.now.plain (lines_of c.args.script.now.text.items))
    (g.W.Output.contents c.args.out.now) (g.W.Output.contents c.lines.out) (g.W.Output.contents c.run.new.out) (console_of c.lines.book.plain c.lines.dialogue.runs)
    (console_of c.run.new.book.plain c.run.new.self.runs) c.lines.dialogue.summary c.lines.rest.now c.first_line.result.0.now c.first_line.result.1.now c.lines.invariant.1 c.first_line.ensures.lines
    (rw c.as_slice.ensures.value at (c.in-Err.ensures.leads (lines_of c.first_line.result.1.now))))

pub returns-clause-ran : goal.returns-clause-ran
returns-clause-ran g c =
    rw c.summary.ensures (ran_all g.S.Supply.gives g.K.MapKind.seen c.args.script.now.files.items c.args.supply.now c.lines.supply (g.W.Output.contents c.args.out.now) (g.W.Output.contents c.lines.out) c.args.book.now.plain c.args.script.now.text.items
    c.lines.rest.now (console_of c.lines.book.plain c.lines.dialogue.runs) c.lines.dialogue.summary c.lines.invariant.1 (at_end c.lines.rest.now (sym c.is_empty.ensures ∙ c.lines-test.false)))
