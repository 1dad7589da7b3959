use Rattle.std.proofs.Common.{◌<◌, ◌≤◌, ℕ, length, get_or, arith, refl, ap, ◌∙◌}
use Rattle.bt_mapkind.specs.Prefix.{prefix_length}
use Rattle.map_trie.specs.Ways.{bit_of}
use Rattle.map_trie.specs.Trie.{key_of}
use Rattle.map_trie.proofs.TrieLemmas.{carried_range, put_down, deep_on, swap_on, no_own}
use Rattle.map_trie.proofs.links.put_in.Goals as goal

pub offset_bounds-links-at : goal.offset_bounds-links-at
offset_bounds-links-at c = omega (arith, carried_range _ _ _ _ _ _ c.down.invariant, c.down.invariant.trie.root, c.down.invariant.trie.few)

pub bounds-links-at : goal.bounds-links-at
bounds-links-at c = carried_range _ _ _ _ _ _ c.down.invariant

pub offset_bounds-links-at-then-found-eq0 : goal.offset_bounds-links-at-then-found-eq0
offset_bounds-links-at-then-found-eq0 c = omega (arith, carried_range _ _ _ _ _ _ c.down.invariant, c.down.invariant.trie.root, c.down.invariant.trie.few)

pub bounds-links-at-then-found-eq0 : goal.bounds-links-at-then-found-eq0
bounds-links-at-then-found-eq0 c = carried_range _ _ _ _ _ _ c.down.invariant

pub returns-then-found-eq0 : goal.returns-then-found-eq0
returns-then-found-eq0 c = put_down _ _ _ _ _ _ c.down.invariant c.if-found-eq0.true

pub replace-requires-clause-not_old_left : goal.replace-requires-clause-not_old_left
replace-requires-clause-not_old_left c =
    let some : 0 < get_or c.down.links c.down.at 0 = omega (arith, c.if-found-eq0.false) in
    no_own _ _ _ _ c.down.invariant.trie c.down.at _ some (c.down.invariant.trie.linked.off c.down.invariant.some c.down.at) (omega arith) (omega arith)

pub replace-requires-clause-not_old_right : goal.replace-requires-clause-not_old_right
replace-requires-clause-not_old_right c =
    let some : 0 < get_or c.down.links c.down.at 0 = omega (arith, c.if-found-eq0.false) in
    no_own _ _ _ _ c.down.invariant.trie c.down.at _ some (c.down.invariant.trie.linked.off c.down.invariant.some c.down.at) (omega arith) (omega arith)

pub bit_of-requires-in-down : goal.bit_of-requires-in-down
bit_of-requires-in-down c =
    let found : ℕ = get_or c.down.links c.down.at 0 in
    let some : 0 < found = omega (arith, c.if-found-eq0.false) in
    let short : prefix_length (key_of c.args.keys.now c.down.carried) ≤ c.down.depth = omega (arith, c.length_of.ensures.bits, ap prefix_length c.row-key.ensures, c.if-length_of-here.false) in
    omega (
      arith,
      deep_on _ _ _ _ _ _ c.down.invariant found c.replace.new.links refl some short c.replace.auto.links c.replace.ensures,
      (c.down.invariant.trie.stored found some (c.down.invariant.trie.linked.below c.down.at)).bits,
      ap length c.row.ensures,
    )

pub down-preserved : goal.down-preserved
down-preserved c =
    let found : ℕ = get_or c.down.links c.down.at 0 in
    let some : 0 < found = omega (arith, c.if-found-eq0.false) in
    let short : prefix_length (key_of c.args.keys.now c.down.carried) ≤ c.down.depth = omega (arith, c.length_of.ensures.bits, ap prefix_length c.row-key.ensures, c.if-length_of-here.false) in
    swap_on _ _ _ _ _ _ c.down.invariant found c.replace.new.links refl some short c.replace.auto.links c.replace.ensures _
    (c.bit_of-in-down.ensures.bit ∙ ap (λ k. bit_of k c.down.depth) c.row.ensures)
