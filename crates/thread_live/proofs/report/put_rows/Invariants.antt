use Rattle.std.proofs.Common.{drop}
use Rattle.console_text.proofs.Writing.{Written}
use Rattle.thread_live.specs.Reports.{rows_text}
use Rattle.thread_live.proofs.report.put_rows.Given as goal

abbrev pub invariant-loop-row : goal.invariant-loop-row
invariant-loop-row g l = Written (g.W.Output.contents l.initial.out) (g.W.Output.contents l.out) (rows_text l.rows) (rows_text (drop l.row-index l.rows))
