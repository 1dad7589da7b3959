use Rattle.std.proofs.Common.{ap, ◌∙◌}
use Rattle.map_chains.specs.Chains.{row_after}
use Rattle.map_chains.proofs.BucketLemmas.{next_read}
use Rattle.map_chains.proofs.chains.Chains.next.Goals as goal

pub returns : goal.returns
returns c bucket i there =
    c.row_after.ensures
    ∙ ap (λ after. row_after after c.self.inside.rows c.args.row) c.deref.ensures.value
    ∙ next_read _ _ _ _ c.self.invariant c.self.view_is c.args.row bucket i there
