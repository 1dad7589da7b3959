use Rattle.std.proofs.Common.{◌≡◌, ◌++◌, drop}
use Rattle.console_text.specs.Text.{pieces_text}
use Rattle.console_text.proofs.gathered.gather.Given as goal

-- what is gathered and what is left are all
abbrev pub invariant-loop-piece : goal.invariant-loop-piece
invariant-loop-piece l = l.initial.line.items ++ pieces_text l.pieces ≡ l.line.items ++ pieces_text (drop l.piece-index l.pieces)
