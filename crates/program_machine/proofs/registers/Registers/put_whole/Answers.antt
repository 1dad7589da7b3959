use Rattle.std.proofs.Common.{List, set, ap, ◌∙◌}
use Rattle.program_machine.specs.Held.{Held}
use Rattle.program_machine.specs.Places.{held_by}
use Rattle.program_machine.proofs.Seen.{seen_set_apart}
use Rattle.program_machine.proofs.registers.Registers.put_whole.Goals as goal

pub returns : goal.returns
returns c =
    seen_set_apart c.self.inside.sorts c.self.inside.numbers c.self.inside.kinds c.self.inside.keys c.args.register c.args.kind c.args.key.now
    ∙ ap (λ (l : List Held). set l c.args.register (held_by c.args.kind c.args.key.now)) c.self.view_is
