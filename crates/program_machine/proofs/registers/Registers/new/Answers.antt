use Rattle.std.proofs.Common.{refl}
use Rattle.program_machine.specs.Places.{paired}
use Rattle.program_machine.proofs.registers.Registers.new.Goals as goal

pub returns : goal.returns
unfolding paired
returns c = refl
