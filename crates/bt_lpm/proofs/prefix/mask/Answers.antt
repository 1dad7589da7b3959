use Rattle.std.proofs.Common.{arith, refl}
use Rattle.bt_lpm.proofs.MaskLemmas.{mask_more, mask_end}
use Rattle.bt_lpm.proofs.prefix.mask.Goals as goal

pub loop-byte-preserved : goal.loop-byte-preserved
loop-byte-preserved c =
    mask_more c.loop-byte.bytes _ c.loop-byte.byte-index c.loop-byte.left _ _ _ _ (omega (arith, c.loop-byte-test.true, c.loop-byte.auto.bytes)) refl c.min.ensures c.high_bits.ensures c.saturating_sub-left.ensures c.loop-byte.invariant

pub returns : goal.returns
returns c = mask_end c.loop-byte.bytes _ c.loop-byte.byte-index c.loop-byte.left (omega (arith, c.loop-byte-test.false, c.loop-byte.auto.bytes)) c.loop-byte.invariant
