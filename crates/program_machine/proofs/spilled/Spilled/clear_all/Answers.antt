use Rattle.std.proofs.Common.{refl, sym, ◌∙◌}
use Rattle.program_machine.proofs.Masks.{none_masked, nothing_masked}
use Rattle.program_machine.proofs.Pairs.{paired_nothing}
use Rattle.program_machine.proofs.spilled.Spilled.clear_all.Goals as goal

pub returns-then-self-eq0 : goal.returns-then-self-eq0
returns-then-self-eq0 c =
    sym c.self.view_is
    ∙ nothing_masked c.self.inside.mask c.self.inside.kinds c.self.inside.keys c.self.invariant.0 c.self.invariant.1 c.self.invariant.2 c.if-self-eq0.true

pub invariant_of-self : goal.invariant_of-self
invariant_of-self c = (refl, c.self.invariant.1, none_masked 64)

pub returns : goal.returns
returns c = paired_nothing 64 c.self.inside.keys c.self.invariant.1
