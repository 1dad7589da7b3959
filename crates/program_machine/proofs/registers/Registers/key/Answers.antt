use Rattle.std.proofs.Common.{List, ap, sym, ◌∙◌}
use Rattle.program_machine.specs.Held.{Held, kind_of, key_of}
use Rattle.program_machine.specs.Places.{held_at}
use Rattle.program_machine.specs.declared.kind.Kind.TheVariants.{Value}
use Rattle.program_machine.proofs.Seen.{whole_there}
use Rattle.program_machine.proofs.registers.Registers.key.Goals as goal

pub returns-in-Value-clause-value : goal.returns-in-Value-clause-value
returns-in-Value-clause-value c =
    c.as_slice.ensures.value
    ∙ ap (λ (v : Held). key_of v)
    (whole_there c.self.inside.sorts c.self.inside.numbers c.self.inside.kinds c.self.inside.keys c.args.register (Value c.in-Value.map c.in-Value.position)
    c.self.invariant.0 c.self.invariant.1 c.self.invariant.2 c.self.invariant.3 c.requires
    (sym c.in-Value.is ∙ c.kind.ensures ∙ ap (λ (l : List Held). kind_of (held_at l c.args.register)) (sym c.self.view_is)))
    ∙ ap (λ (l : List Held). key_of (held_at l c.args.register)) c.self.view_is
