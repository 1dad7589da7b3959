use Rattle.std.proofs.Common.{length}
use Rattle.console_text.proofs.Writing.{Written}
use Rattle.console_text.proofs.piece.put.Given as goal

abbrev pub invariant-loop-rest : goal.invariant-loop-rest
invariant-loop-rest g l = Written (g.W.Output.contents l.initial.out) (g.W.Output.contents l.out) l.bytes l.rest

abbrev pub decreases-loop-rest : goal.decreases-loop-rest
decreases-loop-rest g l = length l.rest
