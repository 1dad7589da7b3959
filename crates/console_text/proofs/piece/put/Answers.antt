use Rattle.console_text.proofs.Writing.{written_took}
use Rattle.console_text.proofs.piece.put.Goals as goal

pub loop-rest-preserved : goal.loop-rest-preserved
loop-rest-preserved g c = rw c.split_at.ensures.back (written_took _ _ _ _ _ c.in-Ok.count c.loop-rest.invariant c.in-Ok.ensures.bytes)
