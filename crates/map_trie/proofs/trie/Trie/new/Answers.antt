use Rattle.map_trie.proofs.KeptLemmas.{empty}
use Rattle.map_trie.proofs.trie.Trie.new.Goals as goal

pub invariant_of-result : goal.invariant_of-result
invariant_of-result c = empty c.args.capacity c.args.key_size _ _ c.requires.few c.requires.small_keys c.in_ok-links.ensures c.in_ok-keys.ensures
