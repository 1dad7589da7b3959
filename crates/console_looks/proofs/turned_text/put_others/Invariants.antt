use Rattle.std.proofs.Common.{drop}
use Rattle.std.specs.List.{flat_map}
use Rattle.console_text.proofs.Writing.{Written}
use Rattle.console_looks.specs.TurnedText.{next_text}
use Rattle.console_looks.proofs.turned_text.put_others.Given as goal

abbrev pub invariant-loop-row : goal.invariant-loop-row
invariant-loop-row g l = Written (g.W.Output.contents l.initial.out) (g.W.Output.contents l.out) (flat_map next_text l.rows) (flat_map next_text (drop l.row-index l.rows))
