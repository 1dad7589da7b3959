use Rattle.std.proofs.Common.{arith, sym, ◌∙◌}
use Rattle.std.proofs.lemmas.Bool.Decides.{Decides-eqb}
use Rattle.std.proofs.lemmas.Slice.Eq.{slice_eq-Decides}
use Rattle.map_trie.proofs.TrieLemmas.{way_some, way_range_at}
use Rattle.map_trie.proofs.links.link_of.Goals as goal

pub offset_bounds-links-at : goal.offset_bounds-links-at
offset_bounds-links-at c = omega (arith, way_range_at _ _ _ _ c.requires.trie _ _ _ c.down.invariant, c.requires.trie.root, c.requires.trie.few)

pub bounds-links-at : goal.bounds-links-at
bounds-links-at c = way_range_at _ _ _ _ c.requires.trie _ _ _ c.down.invariant

pub overflow_sub-node : goal.overflow_sub-node
overflow_sub-node c = way_some _ _ _ _ c.requires.trie _ _ _ c.down.invariant

pub returns-then-eq : goal.returns-then-eq
returns-then-eq c = record {
  within = way_range_at _ _ _ _ c.requires.trie _ _ _ c.down.invariant;
  some = way_some _ _ _ _ c.requires.trie _ _ _ c.down.invariant;
  is = sym c.row.ensures ∙ (slice_eq-Decides Decides-eqb c.row.result.now c.args.key.now c.eq.result c.eq.ensures).0 c.if-eq.true;
}
