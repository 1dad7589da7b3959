use Rattle.std.proofs.Common.{◌∙◌, sym}
use Rattle.program_machine.specs.Places.{held_by, paired}
use Rattle.program_machine.proofs.Seen.{length-paired, seen_zeros}
use Rattle.program_machine.proofs.registers.Registers.clear_all.Goals as goal

pub returns : goal.returns
returns c =
    let kinds = c.self.inside.kinds in
    let keys = c.self.inside.keys in
    seen_zeros 11 (paired held_by kinds keys) (length-paired held_by kinds keys (c.self.invariant.2 ∙ sym c.self.invariant.3) ∙ c.self.invariant.2)
