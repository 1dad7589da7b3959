use Rattle.std.proofs.Common.{drop}
use Rattle.console_text.specs.Text.{pieces_text}
use Rattle.console_text.proofs.Writing.{Written}
use Rattle.console_text.proofs.piece.put_each.Given as goal

abbrev pub invariant-loop-piece : goal.invariant-loop-piece
invariant-loop-piece g l = Written (g.W.Output.contents l.initial.out) (g.W.Output.contents l.out) (pieces_text l.pieces) (pieces_text (drop l.piece-index l.pieces))
