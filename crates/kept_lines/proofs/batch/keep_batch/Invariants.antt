use Rattle.std.proofs.Common.{ℕ, List, Some, length}
use Rattle.console_operand.specs.Line.{lines_of}
use Rattle.console_script.specs.Frames.{console_of}
use Rattle.console_script.specs.Running.{LeadsOn}
use Rattle.console_script.specs.Transcript.{batch_of, session_of}
use Rattle.kept_lines.specs.Noting.{LeadsFurther}
use Rattle.kept_lines.proofs.batch.keep_batch.Given as goal

abbrev pub invariant-lines : goal.invariant-lines
invariant-lines g l = record {
  leads : (left : List (List ℕ)) → LeadsOn g.S.Supply.gives g.K.MapKind.seen l.files l.fn.supply
      (session_of (console_of l.fn.book.plain l.fn.runs) l.fn.summary left (Some (batch_of (lines_of l.fn.text)))) (Some l.fn.group.text.items)
      l.supply (session_of (console_of l.book.plain l.runs) l.tally.summary left (Some (record { left = lines_of l.rest; accepted = l.accepted }))) (Some l.group.text.items) l.tally.mishap;
  notes : LeadsFurther l.fn.book.plain l.fn.group.events.items l.book.plain l.group.events.items;
}

abbrev pub decreases-lines : goal.decreases-lines
decreases-lines g l = length l.rest
