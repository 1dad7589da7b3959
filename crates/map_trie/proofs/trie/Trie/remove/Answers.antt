use Rattle.std.proofs.Common.{◌≤◌, ◌<◌, length, arith, sym, ap, subst, ◌∙◌}
use Rattle.std.specs.Vec.{with_items}
use Rattle.map_trie.specs.Trie.{IsTrie, IsThere}
use Rattle.map_trie.proofs.MoveLemmas.{dropped}
use Rattle.map_trie.proofs.KeptLemmas.{is_stored, is_there, without_last, without_moved, sizes_moved, seen_without, rewritten, trie_rewritten}
use Rattle.map_trie.proofs.trie.Trie.remove.Goals as goal

pub take_out-node-requires-clause-there : goal.take_out-node-requires-clause-there
take_out-node-requires-clause-there c =
    subst (λ l. IsThere l c.self.inside.keys c.args.key.now) (sym c.deref_mut.ensures.value) (is_there _ _ _ _ c.self.invariant c.args.key.now (is_stored _ _ _ _ c.self.invariant _ c.self.view_is _ c.requires))

pub invariant_of-self : goal.invariant_of-self
invariant_of-self c =
    let whole : IsTrie c.self.inside.len c.deref_mut.result.now c.self.inside.keys 0 = subst (λ l. IsTrie c.self.inside.len l c.self.inside.keys 0) (sym c.deref_mut.ensures.value) c.self.invariant.trie in
    let some : 0 < c.self.inside.len = omega (arith, c.take_out-node.ensures.some, c.if-node-last.true) in
    record {
      trie = trie_rewritten c.self.inside.links c.take_out-node.new.links (c.take_out-node.auto.links ∙ ap length c.deref_mut.ensures.value ∙ sym c.self.inside.links.ok.0) _ _ _
          (dropped _ _ _ some (subst (IsTrie c.self.inside.len c.take_out-node.new.links c.self.inside.keys) c.if-node-last.true (c.take_out-node.ensures.apart c.self.inside.len whole)));
      sizes = c.self.invariant.sizes;
      small = c.self.invariant.small;
    }

pub returns-then-node-last-clause-others : goal.returns-then-node-last-clause-others
returns-then-node-last-clause-others c =
    let whole : IsTrie c.self.inside.len c.deref_mut.result.now c.self.inside.keys 0 = subst (λ l. IsTrie c.self.inside.len l c.self.inside.keys 0) (sym c.deref_mut.ensures.value) c.self.invariant.trie in
    seen_without _ _ _ _ c.self.invariant _ c.self.view_is _ _
    (without_last _ _ _ _ c.self.invariant c.args.key.now c.take_out-node.result c.take_out-node.ensures.some (c.take_out-node.ensures.within c.self.inside.len whole) c.take_out-node.ensures.is c.if-node-last.true)

pub move_last-requires-clause-below : goal.move_last-requires-clause-below
move_last-requires-clause-below c =
    let whole : IsTrie c.self.inside.len c.deref_mut.result.now c.self.inside.keys 0 = subst (λ l. IsTrie c.self.inside.len l c.self.inside.keys 0) (sym c.deref_mut.ensures.value) c.self.invariant.trie in
    omega (arith, c.take_out-node.ensures.within c.self.inside.len whole, c.if-node-last.false)

pub move_last-requires-clause-trie : goal.move_last-requires-clause-trie
move_last-requires-clause-trie c =
    let whole : IsTrie c.self.inside.len c.deref_mut.result.now c.self.inside.keys 0 = subst (λ l. IsTrie c.self.inside.len l c.self.inside.keys 0) (sym c.deref_mut.ensures.value) c.self.invariant.trie in
    let written = rewritten c.self.inside.links c.take_out-node.new.links (c.take_out-node.auto.links ∙ ap length c.deref_mut.ensures.value ∙ sym c.self.inside.links.ok.0) in
    subst (λ l. IsTrie c.self.inside.len l c.self.inside.keys c.take_out-node.result) (sym (c.deref_mut-2.ensures.value ∙ written)) (c.take_out-node.ensures.apart c.self.inside.len whole)

pub invariant_of-self-2 : goal.invariant_of-self-2
invariant_of-self-2 c =
    let whole : IsTrie c.self.inside.len c.deref_mut.result.now c.self.inside.keys 0 = subst (λ l. IsTrie c.self.inside.len l c.self.inside.keys 0) (sym c.deref_mut.ensures.value) c.self.invariant.trie in
    let within : c.take_out-node.result ≤ c.self.inside.len = c.take_out-node.ensures.within c.self.inside.len whole in
    let less : c.take_out-node.result < c.self.inside.len = omega (arith, c.if-node-last.false) in
    record {
      trie = trie_rewritten (with_items c.self.inside.links c.take_out-node.new.links) c.move_last.new.links (c.move_last.auto.links ∙ ap length c.deref_mut-2.ensures.value ∙ sym (with_items c.self.inside.links c.take_out-node.new.links).ok.0) _ _ _ c.move_last.ensures.trie;
      sizes = sizes_moved _ _ _ _ c.self.invariant c.args.key.now c.take_out-node.result c.take_out-node.ensures.some within c.take_out-node.ensures.is less c.move_last.new.keys c.move_last.ensures.keys;
      small = c.self.invariant.small;
    }

pub returns-clause-others : goal.returns-clause-others
returns-clause-others c =
    let whole : IsTrie c.self.inside.len c.deref_mut.result.now c.self.inside.keys 0 = subst (λ l. IsTrie c.self.inside.len l c.self.inside.keys 0) (sym c.deref_mut.ensures.value) c.self.invariant.trie in
    let within : c.take_out-node.result ≤ c.self.inside.len = c.take_out-node.ensures.within c.self.inside.len whole in
    let less : c.take_out-node.result < c.self.inside.len = omega (arith, c.if-node-last.false) in
    seen_without _ _ _ _ c.self.invariant _ c.self.view_is _ _
    (without_moved _ _ _ _ c.self.invariant c.args.key.now c.take_out-node.result c.take_out-node.ensures.some within c.take_out-node.ensures.is less c.move_last.new.keys c.move_last.ensures.keys)
