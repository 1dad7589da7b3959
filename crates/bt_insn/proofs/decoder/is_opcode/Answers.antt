use Rattle.std.proofs.Common.{sym, ◌∙◌}
use Rattle.bt_insn.proofs.Opcodes.{opcode_found, opcode_is_found}
use Rattle.bt_insn.proofs.decoder.is_opcode.Goals as goal

pub returns-else-is_some : goal.returns-else-is_some
returns-else-is_some c = (
  λ found. opcode_found c.args.opcode _ c.new-else-is_some.result c.new-else-is_some.ensures.found (sym c.is_some-else-is_some.ensures ∙ found),
  λ is. c.is_some-else-is_some.ensures ∙ opcode_is_found c.args.opcode c.new.result c.new-else-is_some.result is c.new.ensures.only c.new-else-is_some.ensures.only (sym c.is_some.ensures ∙ c.if-is_some.false),
)
