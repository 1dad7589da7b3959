use Rattle.std.proofs.Common.{arith, ◌+◌, ◌∙◌}
use Rattle.std.proofs.lemmas.List.{get_or_default}
use Rattle.map_chains.proofs.BucketLemmas.{head_there, came}
use Rattle.map_chains.proofs.chains.Chains.link.Goals as goal

pub overflow_add-head : goal.overflow_add-head
overflow_add-head c = omega (arith, head_there _ _ _ _ c.self.invariant c.self.view_is c.args.bucket c.requires.bucket, c.self.invariant.few)

pub index-next-requires : goal.index-next-requires
index-next-requires c = omega (arith, head_there _ _ _ _ c.self.invariant c.self.view_is c.args.bucket c.requires.bucket, c.self.inside.after.ok.0)

pub index_mut-requires-2 : goal.index_mut-requires-2
index_mut-requires-2 c = omega (arith, head_there _ _ _ _ c.self.invariant c.self.view_is c.args.bucket c.requires.bucket, c.self.inside.after.ok.0)

pub overflow_cast-head : goal.overflow_cast-head
overflow_cast-head c = omega (arith, head_there _ _ _ _ c.self.invariant c.self.view_is c.args.bucket c.requires.bucket, c.self.invariant.few)

pub index_mut-requires-4 : goal.index_mut-requires-4
index_mut-requires-4 c =
    omega (arith, c.self.invariant.afters (c.self.inside.rows + c.args.bucket) c.index-next.result.now (head_there _ _ _ _ c.self.invariant c.self.view_is c.args.bucket c.requires.bucket), c.index-next.ensures, c.self.inside.before.ok.0, c.self.invariant.back)

pub invariant_of-self : goal.invariant_of-self
invariant_of-self c =
    (came _ _ _ _ c.self.invariant c.self.view_is c.args.bucket c.args.row c.index-next.result.now c.requires.bucket c.requires.row c.requires.free
    (c.index-next.ensures ∙ get_or_default _ _ _ _ (head_there _ _ _ _ c.self.invariant c.self.view_is c.args.bucket c.requires.bucket))).linked

pub returns : goal.returns
returns c =
    (came _ _ _ _ c.self.invariant c.self.view_is c.args.bucket c.args.row c.index-next.result.now c.requires.bucket c.requires.row c.requires.free
    (c.index-next.ensures ∙ get_or_default _ _ _ _ (head_there _ _ _ _ c.self.invariant c.self.view_is c.args.bucket c.requires.bucket))).view
