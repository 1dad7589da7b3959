use Rattle.std.proofs.Common.{◌≡◌, Some, length, set, arith}
use Rattle.std.proofs.lemmas.Grind.{common_steps}
use Rattle.program_machine.proofs.Masks.{put_masked}
use Rattle.program_machine.proofs.spilled.Spilled.put.Goals as goal

pub invariant_of-self : goal.invariant_of-self
invariant_of-self c =
    let kinds : length (set c.self.inside.kinds c.args.word (Some c.value.inside.kind)) ≡ 64 = grind (arith, common_steps) in
    let keys : length (set c.self.inside.keys c.args.word c.value.inside.key) ≡ 64 = grind (arith, common_steps) in
    (kinds, keys, put_masked c.self.inside.mask c.args.word c.self.inside.kinds c.value.inside.kind c.self.invariant.2 c.requires c.self.invariant.0)
