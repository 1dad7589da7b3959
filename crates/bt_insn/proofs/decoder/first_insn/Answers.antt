use Rattle.std.proofs.Common.{sym, ◌∙◌, arith}
use Rattle.bt_insn.proofs.Front.{bad_first, narrow_front, wide_front, bad_second, some_none}
use Rattle.bt_insn.proofs.decoder.first_insn.Goals as goal

pub returns-then-is_opcode-clause-fault : goal.returns-then-is_opcode-clause-fault
returns-then-is_opcode-clause-fault c =
    bad_first c.args.bytes.now c.args.slot c.read-first.result c.read-first.ensures.fits c.read-first.ensures.spelled
    (sym c.insn.ensures.value ∙ c.in_default.is) (c.is_opcode.ensures.0 c.if-is_opcode.true)

pub returns-then-slots-eq1-clause-found : goal.returns-then-slots-eq1-clause-found
returns-then-slots-eq1-clause-found c =
    narrow_front c.args.bytes.now c.read-first.result c.in-Some.insn c.read-first.ensures.spelled c.in-Some.ensures.found (omega arith)

pub returns-in-Some-wide_insn-clause-found : goal.returns-in-Some-wide_insn-clause-found
returns-in-Some-wide_insn-clause-found c =
    wide_front c.args.bytes.now c.read-first.result c.read.result c.in-Some-wide_insn.insn c.in-Some.insn
    c.read-first.ensures.spelled (rw c.split_at.ensures.back at c.read.ensures.spelled) c.in-Some.ensures.found (λ one. omega arith)
    c.in-Some-wide_insn.ensures.found c.in-Some-wide_insn.ensures.second

pub returns-in-None-clause-fault : goal.returns-in-None-clause-fault
returns-in-None-clause-fault c =
    bad_second c.args.bytes.now c.args.slot c.read-first.result c.read.result c.in-Some.insn (omega arith)
    c.read-first.ensures.fits c.read.ensures.fits c.read-first.ensures.spelled (rw c.split_at.ensures.back at c.read.ensures.spelled) c.in-Some.ensures.found (λ one. omega arith)
    (λ v fits first second. some_none v (sym (c.wide_insn.ensures.only v fits first second) ∙ c.in-None.is))
