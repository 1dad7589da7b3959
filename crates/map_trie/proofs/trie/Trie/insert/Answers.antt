use Rattle.std.proofs.Common.{◌+◌, length, sym, ap, subst, ◌∙◌}
use Rattle.map_trie.specs.Trie.{IsTrie}
use Rattle.map_trie.proofs.KeptLemmas.{has_room, has_size, is_absent, added, sizes_added, list_added, length_added, seen_added, trie_rewritten}
use Rattle.map_trie.proofs.trie.Trie.insert.Goals as goal

pub put_in-requires-clause-trie : goal.put_in-requires-clause-trie
put_in-requires-clause-trie c =
    subst (λ l. IsTrie (c.self.inside.len + 1) l c.write.new.self (c.self.inside.len + 1)) (sym c.deref_mut.ensures.value)
    (added _ _ _ _ c.self.invariant c.args.key.now (has_room _ _ _ _ c.self.invariant _ c.self.view_is c.requires.room) (has_size _ _ _ _ c.self.invariant _ c.self.view_is _ c.requires.key_size) c.requires.stored
    (is_absent _ _ _ _ c.self.invariant _ c.self.view_is _ c.requires.absent) c.write.new.self c.write.ensures)

pub invariant_of-self : goal.invariant_of-self
invariant_of-self c = record {
  trie = trie_rewritten c.self.inside.links c.put_in.new.links (c.put_in.auto.links ∙ ap length c.deref_mut.ensures.value ∙ sym c.self.inside.links.ok.0) _ _ _ c.put_in.ensures;
  sizes = sizes_added _ _ _ _ c.self.invariant c.args.key.now (has_room _ _ _ _ c.self.invariant _ c.self.view_is c.requires.room) (has_size _ _ _ _ c.self.invariant _ c.self.view_is _ c.requires.key_size) c.requires.stored
      (is_absent _ _ _ _ c.self.invariant _ c.self.view_is _ c.requires.absent) c.write.new.self c.write.ensures;
  small = c.self.invariant.small;
}

pub returns : goal.returns
returns c =
    seen_added _ _ _ _ c.self.invariant _ c.self.view_is c.args.key.now c.write.new.self
    (list_added _ _ _ _ c.self.invariant c.args.key.now (has_room _ _ _ _ c.self.invariant _ c.self.view_is c.requires.room) (has_size _ _ _ _ c.self.invariant _ c.self.view_is _ c.requires.key_size) c.requires.stored
    (is_absent _ _ _ _ c.self.invariant _ c.self.view_is _ c.requires.absent) c.write.new.self c.write.ensures)
    (length_added _ _ _ _ c.self.invariant c.args.key.now (has_room _ _ _ _ c.self.invariant _ c.self.view_is c.requires.room) (has_size _ _ _ _ c.self.invariant _ c.self.view_is _ c.requires.key_size) c.requires.stored
    (is_absent _ _ _ _ c.self.invariant _ c.self.view_is _ c.requires.absent) c.write.new.self c.write.ensures)
