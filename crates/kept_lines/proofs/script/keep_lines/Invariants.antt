use Rattle.std.proofs.Common.{None, length}
use Rattle.sqlite.specs.Held.{state}
use Rattle.console_operand.specs.Line.{lines_of}
use Rattle.console_script.specs.Frames.{console_of}
use Rattle.console_script.specs.Transcript.{session_of}
use Rattle.kept_lines.specs.Kept.{AddsAt, script_on}
use Rattle.kept_lines.proofs.Standing.{Standing}
use Rattle.kept_lines.proofs.script.keep_lines.Given as goal

abbrev pub invariant-lines : goal.invariant-lines
invariant-lines g l =
    Standing g.S.Supply.gives g.K.MapKind.seen l.fn.script.files.items l.fn.supply (script_on l.fn.book.plain l.fn.script.text.items) (g.W.Output.contents l.fn.out) (state g.D.Store l.fn.conn)
    (g.W.Output.contents l.out) l.group.events.items l.group.text.items l.supply (session_of (console_of l.book.plain l.runs) l.summary (lines_of l.rest) None) (state g.D.Store l.conn)
    × AddsAt l.fn.time (state g.D.Store l.fn.conn) (state g.D.Store l.conn)

abbrev pub decreases-lines : goal.decreases-lines
decreases-lines g l = length l.rest
