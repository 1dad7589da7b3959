use Rattle.std.proofs.Common.{refl}
use Rattle.program_machine.proofs.Masks.{none_masked}
use Rattle.program_machine.specs.Places.{paired}
use Rattle.program_machine.proofs.spilled.Spilled.new.Goals as goal

pub invariant_of-result : goal.invariant_of-result
invariant_of-result c = (refl, refl, none_masked 64)

pub returns : goal.returns
unfolding paired
returns c = refl
