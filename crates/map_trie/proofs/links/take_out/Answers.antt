use Rattle.std.proofs.Common.{◌≢◌, get_or, arith, refl, subst, set, length-set, ◌∙◌}
use Rattle.map_trie.specs.Trie.{IsTrie}
use Rattle.map_trie.proofs.TrieLemmas.{no_own, filled, cut}
use Rattle.map_trie.proofs.links.take_out.Goals as goal

pub replace-requires-clause-not_old_left : goal.replace-requires-clause-not_old_left
replace-requires-clause-not_old_left c =
    let other : get_or c.args.links.now c.link_of-at.result 0 ≢ 0 = omega (arith, c.link_of-at.ensures.some) in
    no_own _ _ _ _ c.requires.whole.1 c.link_of-at.result _ c.link_of-at.ensures.some other (omega arith) (omega arith)

pub replace-requires-clause-not_old_right : goal.replace-requires-clause-not_old_right
replace-requires-clause-not_old_right c =
    let other : get_or c.args.links.now c.link_of-at.result 0 ≢ 0 = omega (arith, c.link_of-at.ensures.some) in
    no_own _ _ _ _ c.requires.whole.1 c.link_of-at.result _ c.link_of-at.ensures.some other (omega arith) (omega arith)

pub returns-then-leaf-node-clause-apart : goal.returns-then-leaf-node-clause-apart
returns-then-leaf-node-clause-apart c count t =
    let e = c.leaf_below-end.ensures in
    let differ : get_or c.args.links.now c.leaf_below-end.result 0 ≢ get_or c.args.links.now c.link_of-at.result 0 = c.if-leaf-node.true in
    filled count _ _ _ c.link_of-at.result c.leaf_below-end.result _ _ e.down t refl c.link_of-at.ensures.some refl e.some e.within e.left e.right e.under differ (c.replace.auto.links ∙ length-set c.args.links.now c.leaf_below-end.result 0) c.replace.ensures

pub returns-else-leaf-node-clause-apart : goal.returns-else-leaf-node-clause-apart
returns-else-leaf-node-clause-apart c count t =
    let e = c.leaf_below-end.ensures in
    subst (IsTrie count (set c.args.links.now c.leaf_below-end.result 0) c.args.keys.now) c.if-leaf-node.false
    (cut count 0 _ _ t c.leaf_below-end.result _ refl refl e.some e.within e.left e.right)
