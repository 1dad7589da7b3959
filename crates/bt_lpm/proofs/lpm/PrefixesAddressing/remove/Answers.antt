use Rattle.std.proofs.Common.{sym, subst}
use Rattle.std.specs.List.{Contains}
use Rattle.map_trie.specs.Trie.{IsWithout}
use Rattle.bt_lpm.proofs.KeyLemmas.{has_keys, keys_of, keys_left}
use Rattle.bt_lpm.proofs.lpm.PrefixesAddressing.remove.Goals as goal

pub remove-requires : goal.remove-requires
remove-requires c = subst (Contains c.args.self.now.trie.stored) (sym c.as_slice.ensures.value) ((keys_of c.requires.old _ c.requires.indexed).back c.args.stored.now c.requires.there)

pub returns : goal.returns
returns c = ∣ has_keys _ _
    (keys_left c.requires.old _ c.args.self.now.trie c.args.stored.now (keys_of _ _ c.requires.indexed) _ c.requires.there c.requires.is
    (subst (λ k. IsWithout c.args.self.now.trie.stored k c.remove.new.self.stored) c.as_slice.ensures.value c.remove.ensures.others) c.remove.ensures.capacity c.remove.ensures.key_size) ∣₁
