use Rattle.bt_insn.proofs.Faults as faults
use Rattle.bt_insn.proofs.laws.one_fault.Goals as goal

pub returns : goal.returns
returns c = faults.one_fault
