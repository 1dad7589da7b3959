use Rattle.std.proofs.Common.{◌≡◌, List, get_or, ap, ◌∙◌, rules}
use Rattle.program_machine.specs.Held.{Held, kind_of}
use Rattle.program_machine.specs.Places.{held_at}
use Rattle.program_machine.specs.declared.registers.Sort.TheVariants.{Number, Stack, Other}
use Rattle.program_machine.proofs.Seen.{kind_number, kind_stack, kind_other}
use Rattle.program_machine.proofs.registers.Registers.kind.Goals as goal

pub returns-in-Number : goal.returns-in-Number
returns-in-Number c =
    let sort : get_or c.self.inside.sorts c.args.register Number ≡ Number = search rules in
    kind_number c.self.inside.sorts c.self.inside.numbers c.self.inside.kinds c.self.inside.keys c.args.register c.self.invariant.0 c.self.invariant.1 c.self.invariant.2 c.self.invariant.3 c.requires sort
    ∙ ap (λ (l : List Held). kind_of (held_at l c.args.register)) c.self.view_is

pub returns-in-Stack : goal.returns-in-Stack
returns-in-Stack c =
    let sort : get_or c.self.inside.sorts c.args.register Number ≡ Stack = search rules in
    kind_stack c.self.inside.sorts c.self.inside.numbers c.self.inside.kinds c.self.inside.keys c.args.register c.self.invariant.0 c.self.invariant.1 c.self.invariant.2 c.self.invariant.3 c.requires sort
    ∙ ap (λ (l : List Held). kind_of (held_at l c.args.register)) c.self.view_is

pub returns-in-Other : goal.returns-in-Other
returns-in-Other c =
    let sort : get_or c.self.inside.sorts c.args.register Number ≡ Other = search rules in
    kind_other c.self.inside.sorts c.self.inside.numbers c.self.inside.kinds c.self.inside.keys c.args.register c.self.invariant.0 c.self.invariant.1 c.self.invariant.2 c.self.invariant.3 c.requires sort
    ∙ ap (λ (l : List Held). kind_of (held_at l c.args.register)) c.self.view_is
