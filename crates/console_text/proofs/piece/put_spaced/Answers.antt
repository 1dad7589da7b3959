use Rattle.std.proofs.Common.{arith}
use Rattle.console_text.specs.Text.{spaced_hex_of}
use Rattle.console_text.proofs.Writing.{written_item, written_item_front}
use Rattle.console_text.proofs.piece.put_spaced.Goals as goal

pub loop-byte-preserved : goal.loop-byte-preserved
loop-byte-preserved g c = written_item spaced_hex_of _ _ _ _ c.args.bytes.now c.loop-byte.byte-index 0 (omega arith) c.loop-byte.invariant (rw (← c.spaced_hex-digits.ensures) c.in-Ok.ensures.text)

pub returns-in-Err-clause-text : goal.returns-in-Err-clause-text
returns-in-Err-clause-text g c = written_item_front spaced_hex_of _ _ _ _ c.args.bytes.now c.loop-byte.byte-index 0 (omega arith) c.loop-byte.invariant (rw (← c.spaced_hex-digits.ensures) c.in-Err.ensures.text)
