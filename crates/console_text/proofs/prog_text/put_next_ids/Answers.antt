use Rattle.std.proofs.Common.{arith}
use Rattle.console_text.specs.Text.{next_id_text}
use Rattle.console_text.proofs.Writing.{written_item, written_item_front}
use Rattle.console_text.proofs.prog_text.put_next_ids.Goals as goal

pub loop-id-preserved : goal.loop-id-preserved
loop-id-preserved g c = written_item next_id_text _ _ _ _ c.args.ids.now c.loop-id.id-index 0 (omega arith) c.loop-id.invariant c.in-Ok.ensures.text

pub returns-in-Err-clause-text : goal.returns-in-Err-clause-text
returns-in-Err-clause-text g c = written_item_front next_id_text _ _ _ _ c.args.ids.now c.loop-id.id-index 0 (omega arith) c.loop-id.invariant c.in-Err.ensures.text
