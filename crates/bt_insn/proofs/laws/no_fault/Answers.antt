use Rattle.bt_insn.proofs.Readings as readings
use Rattle.bt_insn.proofs.laws.no_fault.Goals as goal

pub returns : goal.returns
returns c = readings.no_fault
