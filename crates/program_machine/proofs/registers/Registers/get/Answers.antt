use Rattle.std.proofs.Common.{List, ap, sym, ◌∙◌}
use Rattle.program_machine.specs.Held.{Held, kind_of}
use Rattle.program_machine.specs.Places.{held_at}
use Rattle.program_machine.proofs.Seen.{whole_there}
use Rattle.program_machine.proofs.registers.Registers.get.Goals as goal

pub returns : goal.returns
returns c =
    whole_there c.self.inside.sorts c.self.inside.numbers c.self.inside.kinds c.self.inside.keys c.args.register c.kind.result
    c.self.invariant.0 c.self.invariant.1 c.self.invariant.2 c.self.invariant.3 c.requires
    (c.kind.ensures ∙ ap (λ (l : List Held). kind_of (held_at l c.args.register)) (sym c.self.view_is))
    ∙ ap (λ (l : List Held). held_at l c.args.register) c.self.view_is
