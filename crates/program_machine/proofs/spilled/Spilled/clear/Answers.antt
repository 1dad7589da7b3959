use Rattle.std.proofs.Common.{◌≡◌, List, length, [], Option, None, set, ap, ◌∙◌, arith}
use Rattle.std.proofs.lemmas.Grind.{common_steps}
use Rattle.program_machine.specs.Held.{Held}
use Rattle.program_machine.specs.Places.{kept_by}
use Rattle.program_machine.specs.declared.key.Key.{Key}
use Rattle.program_machine.proofs.Masks.{clear_masked}
use Rattle.program_machine.proofs.Pairs.{paired_set_left}
use Rattle.program_machine.proofs.spilled.Spilled.clear.Goals as goal

pub invariant_of-self : goal.invariant_of-self
invariant_of-self c =
    let kinds : length (set c.self.inside.kinds c.args.word None) ≡ 64 = grind (arith, common_steps) in
    (kinds, c.self.invariant.1, clear_masked c.self.inside.mask c.args.word c.self.inside.kinds c.self.invariant.2 c.requires c.self.invariant.0)

pub returns : goal.returns
returns c =
    let none : Key = record { size = 0; bytes = [] } in
    paired_set_left kept_by c.self.inside.kinds c.self.inside.keys c.args.word None none
    ∙ ap (λ (l : List (Option Held)). set l c.args.word None) c.self.view_is
