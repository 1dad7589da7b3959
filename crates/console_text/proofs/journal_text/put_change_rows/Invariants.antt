use Rattle.std.proofs.Common.{drop}
use Rattle.std.specs.List.{flat_map}
use Rattle.console_text.specs.Text.{change_row_text}
use Rattle.console_text.proofs.Writing.{Written}
use Rattle.console_text.proofs.journal_text.put_change_rows.Given as goal

abbrev pub invariant-loop-row : goal.invariant-loop-row
invariant-loop-row g l = Written (g.W.Output.contents l.initial.out) (g.W.Output.contents l.out) (flat_map change_row_text l.rows) (flat_map change_row_text (drop l.row-index l.rows))
