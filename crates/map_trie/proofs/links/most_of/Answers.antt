use Rattle.std.proofs.Common.{◌<◌, get_or, max, arith, ap, ◌∙◌}
use Rattle.map_trie.specs.Trie.{worth}
use Rattle.map_trie.proofs.TrieLemmas.{best_range, most_ended, most_last, best_on}
use Rattle.map_trie.proofs.links.most_of.Goals as goal

pub offset_bounds-links-at : goal.offset_bounds-links-at
offset_bounds-links-at c = omega (arith, best_range _ _ _ _ c.requires.whole.1 _ _ _ _ c.down.invariant, c.requires.whole.1.root, c.requires.whole.1.few)

pub bounds-links-at : goal.bounds-links-at
bounds-links-at c = best_range _ _ _ _ c.requires.whole.1 _ _ _ _ c.down.invariant

pub returns-then-node-eq0 : goal.returns-then-node-eq0
returns-then-node-eq0 c count t = most_ended count _ _ _ t c.requires.bits _ _ _ c.down.invariant c.if-node-eq0.true

pub returns-then-depth-bits : goal.returns-then-depth-bits
returns-then-depth-bits c count t =
    let some : 0 < get_or c.args.links.now c.down.at 0 = omega (arith, c.if-node-eq0.false) in
    most_last _ _ _ _ _ _ _ c.down.invariant some (c.better-best.ensures ∙ ap (λ k. max c.down.best (worth c.args.key.now k)) c.row.ensures) count t c.requires.bits (c.if-depth-bits.true ∙ c.length_of-bits.ensures.bits)

pub down-preserved : goal.down-preserved
down-preserved c =
    let some : 0 < get_or c.args.links.now c.down.at 0 = omega (arith, c.if-node-eq0.false) in
    best_on _ _ _ _ _ _ _ c.down.invariant some (c.better-best.ensures ∙ ap (λ k. max c.down.best (worth c.args.key.now k)) c.row.ensures) _ (omega (arith, c.down.invariant.deep, c.if-depth-bits.false, c.length_of-bits.ensures.bits)) c.bit_of.ensures.bit
