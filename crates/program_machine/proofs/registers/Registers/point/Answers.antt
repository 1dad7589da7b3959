use Rattle.std.proofs.Common.{ℕ, List, set, ap, ◌∙◌}
use Rattle.program_machine.specs.Held.{Held, Pointer, Under}
use Rattle.program_machine.specs.Sorts.{seen_all}
use Rattle.program_machine.specs.declared.kind.Kind.TheVariants.{Value}
use Rattle.program_machine.proofs.Seen.{seen_set_apart}
use Rattle.program_machine.proofs.registers.Registers.point.Goals as goal

pub returns : goal.returns
returns c =
    seen_set_apart c.self.inside.sorts c.self.inside.numbers c.self.inside.kinds c.self.inside.keys c.args.register (Value c.args.map c.args.position) c.put.new.self
    ∙ ap (λ (bytes : List ℕ). set (seen_all c.self.inside.sorts c.self.inside.numbers c.self.inside.kinds c.self.inside.keys) c.args.register (Pointer (Under c.args.map bytes) c.args.position)) c.put.ensures
    ∙ ap (λ (l : List Held). set l c.args.register (Pointer (Under c.args.map c.args.key.now) c.args.position)) c.self.view_is
