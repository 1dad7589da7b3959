use Rattle.std.proofs.Common.{◌+◌, arith, sym, subst}
use Rattle.console_text.proofs.CodeLines.{Listed, listed_more, listed_front}
use Rattle.console_text.proofs.prog_text.put_code.Goals as goal

pub returns-in-Err-clause-text : goal.returns-in-Err-clause-text
returns-in-Err-clause-text g c = listed_front _ _ _ c.args.insns.now c.loop-insn.slot c.loop-insn.insn-index _ (omega arith) c.loop-insn.invariant c.in-Err.ensures.text

pub loop-insn-preserved : goal.loop-insn-preserved
loop-insn-preserved g c =
    subst (λ slots. Listed (g.W.Output.contents c.args.out.now) (g.W.Output.contents c.put_insn.new.out) c.args.insns.now (c.loop-insn.slot + slots) (c.loop-insn.insn-index + 1)) (sym c.slots-slot.ensures)
    (listed_more _ _ _ c.args.insns.now c.loop-insn.slot c.loop-insn.insn-index _ (omega arith) c.loop-insn.invariant c.in-Ok.ensures.text)
