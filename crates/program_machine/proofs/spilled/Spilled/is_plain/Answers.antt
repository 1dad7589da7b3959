use Rattle.std.proofs.Common.{◌<◌, List, Option, length, sym, ap, ◌∙◌, arith}
use Rattle.std.specs.Prelude.{is_none, ◌==◌}
use Rattle.std.proofs.lemmas.Grind.{common_steps}
use Rattle.std.proofs.lemmas.Nat.Bits.{shr_and_one}
use Rattle.program_machine.specs.Held.{Held}
use Rattle.program_machine.specs.Places.{kept_in}
use Rattle.program_machine.proofs.Masks.{plain_masked}
use Rattle.program_machine.proofs.Pairs.{none_there}
use Rattle.program_machine.proofs.spilled.Spilled.is_plain.Goals as goal

pub returns : goal.returns
returns c =
    let kinds : c.args.word < length c.self.inside.kinds = grind (arith, common_steps) in
    let keys : c.args.word < length c.self.inside.keys = grind (arith, common_steps) in
    ap (λ n. n == 0) (shr_and_one c.self.inside.mask c.args.word)
    ∙ plain_masked c.self.inside.mask c.args.word c.self.inside.kinds c.self.invariant.2 c.requires
    ∙ sym (none_there c.self.inside.kinds c.self.inside.keys c.args.word kinds keys)
    ∙ ap (λ (values : List (Option Held)). is_none (kept_in values c.args.word)) c.self.view_is
