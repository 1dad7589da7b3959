use Rattle.std.proofs.Common.{length, sym, ap, subst, ◌∙◌, arith}
use Rattle.std.specs.List.{Contains}
use Rattle.map_trie.specs.Trie.{IsStored}
use Rattle.bt_lpm.proofs.TrieLemmas.{four_bytes}
use Rattle.bt_lpm.proofs.KeyLemmas.{has_keys, keys_of, keys_added, not_listed, is_stored, added_as}
use Rattle.bt_lpm.proofs.lpm.PrefixesAddressing.insert.Goals as goal

pub insert-requires-clause-room : goal.insert-requires-clause-room
insert-requires-clause-room c =
    let k = keys_of c.requires.old c.args.self.now.trie c.requires.indexed in
    omega (arith, k.count, k.capacity, c.requires.room)

pub insert-requires-clause-key_size : goal.insert-requires-clause-key_size
insert-requires-clause-key_size c =
    ap length c.as_slice.ensures.value ∙ c.requires.key_size ∙ sym c.requires.held.key_size ∙ sym (keys_of c.requires.old c.args.self.now.trie c.requires.indexed).key_size

pub insert-requires-clause-stored : goal.insert-requires-clause-stored
insert-requires-clause-stored c =
    subst IsStored (sym c.as_slice.ensures.value)
    (is_stored c.args._attr c.args.stored.now c.requires.held.good.type c.requires.stands c.as_slice.ensures.bytes (four_bytes c.args._attr c.args.stored.now c.requires.held.good c.requires.key_size)
    (omega (arith, c.as_slice.ensures.at_most, ap length c.as_slice.ensures.value)))

pub insert-requires-clause-absent : goal.insert-requires-clause-absent
insert-requires-clause-absent c there =
    not_listed c.requires.old c.args.self.now.trie c.args.stored.now (keys_of _ _ c.requires.indexed) c.requires.absent
    (subst (Contains c.args.self.now.trie.stored) c.as_slice.ensures.value there)

pub returns : goal.returns
returns c = ∣ has_keys _ _
    (keys_added c.requires.old _ c.args.self.now.trie c.args.stored.now (keys_of _ _ c.requires.indexed) c.requires.value _ c.as_slice.ensures.bytes (sym c.requires.absent) c.requires.is
    (added_as _ _ _ _ c.as_slice.ensures.value c.insert.ensures)) ∣₁
