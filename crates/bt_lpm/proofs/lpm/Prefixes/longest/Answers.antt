use Rattle.std.proofs.Common.{◌≡◌, ◌<◌, ◌≤◌, ◌^◌, ◌+◌, ◌*◌, false, length, Some, ◌∙◌, sym, ap, subst, arith}
use Rattle.std.specs.List.{All}
use Rattle.bt_mapkind.specs.Prefix.{prefix_length, is_prefix_of}
use Rattle.bt_mapkind.specs.Read.{found}
use Rattle.map_trie.specs.Trie.{IsLongest}
use Rattle.bt_lpm.proofs.TrieLemmas.{are_keys, four_bytes}
use Rattle.bt_lpm.proofs.LongestLemmas.{found_longest}
use Rattle.bt_lpm.proofs.KeyLemmas.{keys_of, has_bits, none_matches, none_above, longest_there}
use Rattle.bt_lpm.proofs.lpm.Prefixes.longest.Goals as goal

pub longest-requires-clause-key_size : goal.longest-requires-clause-key_size
longest-requires-clause-key_size c =
    ap length c.as_slice.ensures.value ∙ c.requires.size ∙ sym c.requires.held.key_size ∙ sym (keys_of c.args.table.now c.args.self.now.trie c.requires.indexed).key_size

pub returns-in_default : goal.returns-in_default
returns-in_default c =
    ap found
    (none_matches c.args.table.now c.args.self.now.trie c.args.key.now (keys_of _ _ c.requires.indexed) (are_keys c.args.attr c.args.table.now c.args.self.now.trie c.requires.held (keys_of _ _ c.requires.indexed))
    (subst (λ k. All (λ stored. is_prefix_of k stored ≡ false) c.args.self.now.trie.stored) c.as_slice.ensures.value c.in_default.ensures.longest))

pub unreachable-requires : goal.unreachable-requires
unreachable-requires c =
    longest_there c.args.table.now c.args.self.now.trie c.args.key.now (keys_of _ _ c.requires.indexed) (are_keys c.args.attr c.args.table.now c.args.self.now.trie c.requires.held (keys_of _ _ c.requires.indexed)) c.in-Some.bits c.prefix_of-prefix.result
    (subst (λ k. IsLongest c.args.self.now.trie.stored k c.in-Some.bits) c.as_slice.ensures.value c.in-Some.ensures.longest) c.prefix_of-prefix.ensures (sym c.in-None.ensures.value)

pub returns : goal.returns
returns c =
    let has : prefix_length c.args.key.now + 32 ≤ 8 * length c.args.key.now = has_bits c.args.key.now (four_bytes c.args.attr c.args.key.now c.requires.held.good c.requires.size) c.requires.bits in
    let small : prefix_length c.args.key.now < 2 ^ 32 = omega (arith, c.as_slice.ensures.at_most, ap length c.as_slice.ensures.value) in
    let short : c.in-Some.bits < 2 ^ 32 = omega (arith, c.in-Some.ensures.short) in
    ap found
    (found_longest c.args.table.now.entries c.args.key.now _ _ c.in-Some.bits (are_keys c.args.attr c.args.table.now c.args.self.now.trie c.requires.held (keys_of _ _ c.requires.indexed))
    (none_above c.args.table.now c.args.self.now.trie c.args.key.now (keys_of _ _ c.requires.indexed) (are_keys c.args.attr c.args.table.now c.args.self.now.trie c.requires.held (keys_of _ _ c.requires.indexed)) c.in-Some.bits small
    (subst (λ k. IsLongest c.args.self.now.trie.stored k c.in-Some.bits) c.as_slice.ensures.value c.in-Some.ensures.longest)) short c.prefix_of-prefix.ensures (ap Some c.short.ensures ∙ c.in-Some-get.ensures.value))
