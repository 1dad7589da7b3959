use Rattle.console_text.proofs.CodeLines.{Listed}
use Rattle.console_text.proofs.prog_text.put_code.Given as goal

abbrev pub invariant-loop-insn : goal.invariant-loop-insn
invariant-loop-insn g l = Listed (g.W.Output.contents l.initial.out) (g.W.Output.contents l.out) l.insns l.slot l.insn-index
