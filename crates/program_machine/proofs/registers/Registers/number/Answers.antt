use Rattle.std.proofs.Common.{◌≡◌, List, get_or, refl, ap, ◌∙◌, rules}
use Rattle.program_machine.specs.Held.{Held, number_of}
use Rattle.program_machine.specs.Places.{held_at}
use Rattle.program_machine.specs.declared.registers.Sort.{Sort}
use Rattle.program_machine.specs.declared.registers.Sort.TheVariants.{Number}
use Rattle.program_machine.proofs.Seen.{number_there, no_number}
use Rattle.program_machine.proofs.registers.Registers.number.Goals as goal

pub returns-in-Number : goal.returns-in-Number
returns-in-Number c =
    let sort : get_or c.self.inside.sorts c.args.register Number ≡ Number = search rules in
    number_there c.self.inside.sorts c.self.inside.numbers c.self.inside.kinds c.self.inside.keys c.args.register Number c.self.invariant.0 c.self.invariant.1 c.self.invariant.2 c.self.invariant.3 c.self.invariant.4 c.requires sort
    ∙ ap (λ (l : List Held). number_of (held_at l c.args.register)) c.self.view_is

pub returns-in_default : goal.returns-in_default
returns-in_default c =
    let sort : Sort = get_or c.self.inside.sorts c.args.register Number in
    no_number sort (get_or c.self.inside.numbers c.args.register 0) c.in_default.not-Number
    ∙ number_there c.self.inside.sorts c.self.inside.numbers c.self.inside.kinds c.self.inside.keys c.args.register sort c.self.invariant.0 c.self.invariant.1 c.self.invariant.2 c.self.invariant.3 c.self.invariant.4 c.requires refl
    ∙ ap (λ (l : List Held). number_of (held_at l c.args.register)) c.self.view_is
