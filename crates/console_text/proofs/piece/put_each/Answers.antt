use Rattle.std.proofs.Common.{arith}
use Rattle.console_text.specs.Text.{piece_text}
use Rattle.console_text.proofs.Writing.{written_item, written_item_front}
use Rattle.console_text.proofs.piece.put_each.Goals as goal

pub loop-piece-preserved : goal.loop-piece-preserved
loop-piece-preserved g c = written_item piece_text _ _ _ _ c.args.pieces.now c.loop-piece.piece-index _ (omega arith) c.loop-piece.invariant c.in-Ok.ensures.text

pub returns-in-Err-clause-text : goal.returns-in-Err-clause-text
returns-in-Err-clause-text g c = written_item_front piece_text _ _ _ _ c.args.pieces.now c.loop-piece.piece-index _ (omega arith) c.loop-piece.invariant c.in-Err.ensures.text
