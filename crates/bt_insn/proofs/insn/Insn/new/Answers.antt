use Rattle.std.proofs.Common.{◌∙◌, w16, w32}
use Rattle.std.proofs.lemmas.Int.{to_z-of_z}
use Rattle.bt_insn.proofs.Again.{only}
use Rattle.bt_insn.proofs.insn.Insn.new.Goals as goal

pub returns-clause-only : goal.returns-clause-only
returns-clause-only c = λ v fits s.
    rw (to_z-of_z w16 c.args.offset c.ranges.offset, to_z-of_z w32 c.args.imm c.ranges.imm, to_z-of_z w32 c.args.high c.ranges.high) at c.insn.ensures.value
    ∙ only v _ _ fits s
