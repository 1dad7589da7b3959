use Rattle.std.proofs.Common.{drop}
use Rattle.console_text.proofs.Writing.{Written}
use Rattle.kept_log.specs.LogText.{log_text}
use Rattle.kept_log.proofs.text.put_log.Given as goal

abbrev pub invariant-loop-row : goal.invariant-loop-row
invariant-loop-row g l = Written (g.W.Output.contents l.initial.out) (g.W.Output.contents l.out) (log_text l.rows) (log_text (drop l.row-index l.rows))
