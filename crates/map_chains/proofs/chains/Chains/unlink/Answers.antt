use Rattle.std.proofs.Common.{◌<◌, length, arith, ◌∙◌}
use Rattle.std.proofs.lemmas.List.{get_or_default}
use Rattle.map_chains.proofs.BucketLemmas.{row_there, gone}
use Rattle.map_chains.proofs.chains.Chains.unlink.Goals as goal

pub invariant_of-self : goal.invariant_of-self
invariant_of-self c =
    let there : c.args.row < length c.self.inside.after.items = row_there _ _ _ _ c.self.invariant c.self.view_is c.args.row c.requires.row in
    let back_there : c.args.row < length c.self.inside.before.items = omega (arith, c.self.invariant.back) in
    (gone _ _ _ _ c.self.invariant c.self.view_is c.args.row c.index-last.result.now c.index-next.result.now c.requires.row c.requires.linked
    (c.index-last.ensures ∙ get_or_default _ _ _ _ back_there) (c.index-next.ensures ∙ get_or_default _ _ _ _ there)).linked

pub returns : goal.returns
returns c =
    let there : c.args.row < length c.self.inside.after.items = row_there _ _ _ _ c.self.invariant c.self.view_is c.args.row c.requires.row in
    let back_there : c.args.row < length c.self.inside.before.items = omega (arith, c.self.invariant.back) in
    (gone _ _ _ _ c.self.invariant c.self.view_is c.args.row c.index-last.result.now c.index-next.result.now c.requires.row c.requires.linked
    (c.index-last.ensures ∙ get_or_default _ _ _ _ back_there) (c.index-next.ensures ∙ get_or_default _ _ _ _ there)).view
