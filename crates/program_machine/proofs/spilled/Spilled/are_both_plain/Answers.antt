use Rattle.std.proofs.Common.{List, Option, ap, ◌∙◌}
use Rattle.std.specs.Prelude.{◌&&◌, is_none}
use Rattle.program_machine.specs.Held.{Held}
use Rattle.program_machine.specs.Places.{kept_in}
use Rattle.program_machine.proofs.Masks.{both_plain}
use Rattle.program_machine.proofs.spilled.Spilled.are_both_plain.Goals as goal

pub returns-then-self-eq0 : goal.returns-then-self-eq0
returns-then-self-eq0 c =
    both_plain c.self.inside.mask c.args.first c.args.last c.self.inside.kinds c.self.inside.keys c.self.invariant.0 c.self.invariant.1
    c.self.invariant.2 c.requires.first c.requires.last c.if-self-eq0.true
    ∙ ap (λ (values : List (Option Held)). is_none (kept_in values c.args.first) && is_none (kept_in values c.args.last)) c.self.view_is
