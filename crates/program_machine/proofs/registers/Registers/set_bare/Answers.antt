use Rattle.std.proofs.Common.{List, [], set, ap, ◌∙◌}
use Rattle.program_machine.specs.Held.{Held, held}
use Rattle.program_machine.specs.Sorts.{seen_all}
use Rattle.program_machine.proofs.Pairs.{bare_held}
use Rattle.program_machine.proofs.Seen.{seen_set_kind}
use Rattle.program_machine.proofs.registers.Registers.set_bare.Goals as goal

pub returns : goal.returns
returns c =
    seen_set_kind c.self.inside.sorts c.self.inside.numbers c.self.inside.kinds c.self.inside.keys c.args.register c.args.kind
    ∙ ap (λ (v : Held). set (seen_all c.self.inside.sorts c.self.inside.numbers c.self.inside.kinds c.self.inside.keys) c.args.register v) (bare_held c.args.kind _ c.requires.bare)
    ∙ ap (λ (l : List Held). set l c.args.register (held c.args.kind [])) c.self.view_is
