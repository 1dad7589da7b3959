use Rattle.std.proofs.Common.{◌≡◌, ◌≢◌, ◌<◌, ◌+◌, ◌*◌, ℕ, get_or, arith, refl}
use Rattle.std.specs.List.{slice_index}
use Rattle.map_trie.proofs.TrieLemmas.{under_top, under_next}
use Rattle.map_trie.proofs.links.leaf_below.Goals as goal

pub loop-down-init : goal.loop-down-init
loop-down-init c =
    let other : slice_index c.args.links.now c.args.top ≢ 0 = omega (arith, c.requires.some) in
    record { within = c.requires.within; some = c.requires.some; under = under_top _ _ _ _ c.requires.whole.1 c.args.top c.requires.some other }

pub loop-down-preserved-then-links-left-ne0 : goal.loop-down-preserved-then-links-left-ne0
loop-down-preserved-then-links-left-ne0 c =
    let t = c.requires.whole.1 in
    let node : ℕ = get_or c.args.links.now c.loop-down.at 0 in
    let held : 0 < slice_index c.args.links.now (2 * node) = omega (arith, c.if-links-left-ne0.true) in
    let other : slice_index c.args.links.now (2 * node) ≢ 0 = omega arith in
    let is : 2 * node ≡ 2 * node + 0 = omega arith in
    record {
      within = omega (arith, t.linked.below c.loop-down.at, t.linked.few, t.root);
      some = held;
      under = under_next _ _ _ _ t c.args.top node (2 * node) 0 c.loop-down.down c.loop-down.invariant.under c.loop-down.invariant.some (t.linked.below c.loop-down.at) (omega arith) is held other;
    }

pub loop-down-preserved : goal.loop-down-preserved
loop-down-preserved c =
    let t = c.requires.whole.1 in
    let node : ℕ = get_or c.args.links.now c.loop-down.at 0 in
    let held : 0 < slice_index c.args.links.now (2 * node + 1) = omega (arith, c.if-links-left-eq0.false) in
    let other : slice_index c.args.links.now (2 * node + 1) ≢ 0 = omega arith in
    record {
      within = omega (arith, t.linked.below c.loop-down.at, t.linked.few, t.root);
      some = held;
      under = under_next _ _ _ _ t c.args.top node (2 * node + 1) 1 c.loop-down.down c.loop-down.invariant.under c.loop-down.invariant.some (t.linked.below c.loop-down.at) (omega arith) refl held other;
    }
