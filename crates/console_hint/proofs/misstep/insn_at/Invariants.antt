use Rattle.std.proofs.Common.{◌≡◌, length}
use Rattle.console_hint.specs.Missteps.{insn_at}
use Rattle.console_hint.proofs.misstep.insn_at.Given as goal

abbrev pub invariant-loop-insn : goal.invariant-loop-insn
invariant-loop-insn l = insn_at l.left l.rest ≡ insn_at l.fn.slot l.fn.insns

abbrev pub decreases-loop-insn : goal.decreases-loop-insn
decreases-loop-insn l = length l.rest
