use Rattle.std.proofs.Common.{arith}
use Rattle.console_text.specs.Text.{spaced_hex_of}
use Rattle.console_text.proofs.Writing.{gathered_item, gathered_all}
use Rattle.console_text.proofs.gathered.add_spaced.Goals as goal

pub loop-byte-preserved : goal.loop-byte-preserved
loop-byte-preserved c = gathered_item spaced_hex_of _ _ _ c.args.bytes.now c.loop-byte.byte-index 0 (omega arith) c.loop-byte.invariant (rw (← c.spaced_hex-digits.ensures) (c.add.ensures c.if-not-add.false))

pub returns : goal.returns
returns c = λ _. gathered_all spaced_hex_of _ _ c.args.bytes.now c.loop-byte.byte-index (omega arith) c.loop-byte.invariant
