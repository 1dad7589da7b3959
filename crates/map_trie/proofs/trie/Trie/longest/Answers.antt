use Rattle.std.proofs.Common.{sym, subst}
use Rattle.map_trie.specs.Trie.{IsTrie}
use Rattle.map_trie.proofs.KeptLemmas.{seen_longest, seen_short}
use Rattle.map_trie.proofs.trie.Trie.longest.Goals as goal

pub returns-clause-longest : goal.returns-clause-longest
returns-clause-longest c =
    seen_longest _ _ _ _ c.self.invariant _ c.self.view_is c.args.key.now _ _
    (c.most_of.ensures c.self.inside.len (subst (λ l. IsTrie c.self.inside.len l c.self.inside.keys 0) (sym c.deref.ensures.value) c.self.invariant.trie)) c.checked_sub.ensures

pub returns-clause-short : goal.returns-clause-short
returns-clause-short c =
    seen_short _ _ _ _ c.self.invariant c.args.key.now _ _
    (c.most_of.ensures c.self.inside.len (subst (λ l. IsTrie c.self.inside.len l c.self.inside.keys 0) (sym c.deref.ensures.value) c.self.invariant.trie)) c.checked_sub.ensures
