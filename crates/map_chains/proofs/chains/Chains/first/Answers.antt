use Rattle.std.proofs.Common.{arith, ap, length, ◌+◌, ◌∙◌}
use Rattle.map_chains.specs.Chains.{row_after}
use Rattle.map_chains.proofs.BucketLemmas.{head_there, first_read}
use Rattle.map_chains.proofs.chains.Chains.first.Goals as goal

pub overflow_add-self-inside : goal.overflow_add-self-inside
overflow_add-self-inside c = omega (arith, head_there _ _ _ _ c.self.invariant c.self.view_is c.args.bucket c.requires, c.self.invariant.few)

pub row_after-requires : goal.row_after-requires
row_after-requires c = omega (arith, head_there _ _ _ _ c.self.invariant c.self.view_is c.args.bucket c.requires, ap length c.deref.ensures.value)

pub returns : goal.returns
returns c =
    c.row_after.ensures
    ∙ ap (λ after. row_after after c.self.inside.rows (c.self.inside.rows + c.args.bucket)) c.deref.ensures.value
    ∙ first_read _ _ _ _ c.self.invariant c.self.view_is c.args.bucket c.requires
