use Rattle.std.proofs.Common.{Option, None, length}
use Rattle.console_operand.specs.Line.{lines_of}
use Rattle.console_answer.specs.declared.mishap.Mishap.{Mishap}
use Rattle.bt_console.specs.Frames.{console_of}
use Rattle.console_script.specs.Running.{LeadsOn}
use Rattle.console_script.specs.Transcript.{begun, session_of}
use Rattle.bpfcon.proofs.lines.run_lines.Given as goal

abbrev pub invariant-lines : goal.invariant-lines
invariant-lines g l =
    (mishap : Option Mishap) × LeadsOn g.S.Supply.gives g.K.MapKind.seen l.fn.script.files.items l.fn.supply (begun l.fn.book.plain (lines_of l.fn.script.text.items)) (g.W.Output.contents l.fn.out) l.supply
    (session_of (console_of l.book.plain l.dialogue.runs) l.dialogue.summary (lines_of l.rest) None) (g.W.Output.contents l.out) mishap

abbrev pub decreases-lines : goal.decreases-lines
decreases-lines g l = length l.rest
