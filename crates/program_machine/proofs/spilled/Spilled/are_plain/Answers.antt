use Rattle.std.proofs.Common.{List, Option, sym, ap, ◌∙◌}
use Rattle.std.specs.Prelude.{is_none, slice_range}
use Rattle.std.specs.List.{list_all}
use Rattle.program_machine.specs.Held.{Held}
use Rattle.program_machine.proofs.Pairs.{all_none_within}
use Rattle.program_machine.proofs.spilled.Spilled.are_plain.Goals as goal

pub returns : goal.returns
returns c =
    c.are_none.ensures
    ∙ sym (all_none_within c.self.inside.kinds c.self.inside.keys c.args.first c.args.end (c.self.invariant.0 ∙ sym c.self.invariant.1))
    ∙ ap (λ (values : List (Option Held)). list_all is_none (slice_range values c.args.first c.args.end)) c.self.view_is
