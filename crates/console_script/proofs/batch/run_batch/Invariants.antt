use Rattle.std.proofs.Common.{ℕ, List, Some, length}
use Rattle.console_operand.specs.Line.{lines_of}
use Rattle.console_script.specs.Frames.{console_of}
use Rattle.console_script.specs.Running.{LeadsOn}
use Rattle.console_script.specs.Transcript.{batch_of, session_of}
use Rattle.console_script.proofs.batch.run_batch.Given as goal

abbrev pub invariant-lines : goal.invariant-lines
invariant-lines g l =
    (left : List (List ℕ)) → LeadsOn g.S.Supply.gives g.K.MapKind.seen l.files l.fn.supply
    (session_of (console_of l.fn.book.plain l.fn.runs) l.fn.summary left (Some (batch_of (lines_of l.fn.text)))) (g.W.Output.contents l.fn.out)
    l.supply (session_of (console_of l.book.plain l.runs) l.tally.summary left (Some (record { left = lines_of l.rest; accepted = l.accepted }))) (g.W.Output.contents l.out) l.tally.mishap

abbrev pub decreases-lines : goal.decreases-lines
decreases-lines g l = length l.rest
