use Rattle.bt_insn.proofs.Readings as readings
use Rattle.bt_insn.proofs.laws.one_reading.Goals as goal

pub returns : goal.returns
returns c = readings.one_reading
