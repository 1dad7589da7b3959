use Rattle.std.proofs.Common.{◌≡◌, List, get_or, refl, ap, ◌∙◌, rules}
use Rattle.program_machine.specs.Held.{Held, stack_position_of}
use Rattle.program_machine.specs.Places.{held_at}
use Rattle.program_machine.specs.declared.registers.Sort.{Sort}
use Rattle.program_machine.specs.declared.registers.Sort.TheVariants.{Number, Stack}
use Rattle.program_machine.proofs.Seen.{position_there, no_position}
use Rattle.program_machine.proofs.registers.Registers.stack_position.Goals as goal

pub returns-in-Stack : goal.returns-in-Stack
returns-in-Stack c =
    let sort : get_or c.self.inside.sorts c.args.register Number ≡ Stack = search rules in
    position_there c.self.inside.sorts c.self.inside.numbers c.self.inside.kinds c.self.inside.keys c.args.register Stack c.self.invariant.0 c.self.invariant.1 c.self.invariant.2 c.self.invariant.3 c.self.invariant.4 c.requires sort
    ∙ ap (λ (l : List Held). stack_position_of (held_at l c.args.register)) c.self.view_is

pub returns-in_default : goal.returns-in_default
returns-in_default c =
    let sort : Sort = get_or c.self.inside.sorts c.args.register Number in
    no_position sort (get_or c.self.inside.numbers c.args.register 0) c.in_default.not-Stack
    ∙ position_there c.self.inside.sorts c.self.inside.numbers c.self.inside.kinds c.self.inside.keys c.args.register sort c.self.invariant.0 c.self.invariant.1 c.self.invariant.2 c.self.invariant.3 c.self.invariant.4 c.requires refl
    ∙ ap (λ (l : List Held). stack_position_of (held_at l c.args.register)) c.self.view_is
