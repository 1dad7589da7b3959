use Rattle.hex.proofs.HexLemmas.{decode_of-ok}
use Rattle.console_operand.proofs.object.hex_bytes.Goals as goal

pub returns-in-Ok-clause-halved : goal.returns-in-Ok-clause-halved
returns-in-Ok-clause-halved c = (decode_of-ok c.args.digits.now c.in-Ok.bytes.items c.in-Ok.ensures.ok).2
