use Rattle.std.proofs.Common.{arith}
use Rattle.console_text.specs.Text.{piece_text}
use Rattle.console_text.proofs.Writing.{gathered_item, gathered_all}
use Rattle.console_text.proofs.gathered.gather.Goals as goal

pub loop-piece-preserved : goal.loop-piece-preserved
loop-piece-preserved c = gathered_item piece_text _ _ _ c.args.pieces.now c.loop-piece.piece-index _ (omega arith) c.loop-piece.invariant (c.add_piece.ensures c.if-not-add_piece.false)

pub returns : goal.returns
returns c = λ _. gathered_all piece_text _ _ c.args.pieces.now c.loop-piece.piece-index (omega arith) c.loop-piece.invariant
