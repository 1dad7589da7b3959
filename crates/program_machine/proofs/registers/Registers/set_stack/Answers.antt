use Rattle.std.proofs.Common.{List, set, ap, ◌∙◌}
use Rattle.program_machine.specs.Held as values
use Rattle.program_machine.specs.declared.registers.Sort.TheVariants.{Stack}
use Rattle.program_machine.proofs.Seen.{seen_set}
use Rattle.program_machine.proofs.registers.Registers.set_stack.Goals as goal

pub returns : goal.returns
returns c =
    seen_set c.self.inside.sorts c.self.inside.numbers c.self.inside.kinds c.self.inside.keys c.args.register Stack c.args.position
    ∙ ap (λ (l : List values.Held). set l c.args.register (values.Pointer values.Stack c.args.position)) c.self.view_is
