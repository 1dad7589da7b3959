use Rattle.std.proofs.Common.{◌≡◌, ◌≢◌, ◌-◌, get_or, length, set, arith, sym, ap, subst, ◌∙◌, []}
use Rattle.map_trie.specs.Trie.{IsTrie, key_of}
use Rattle.map_trie.proofs.TrieLemmas.{no_own}
use Rattle.map_trie.proofs.MoveLemmas.{renumbered, leads_to_last}
use Rattle.map_trie.proofs.KeptLemmas.{overwritten-whole}
use Rattle.map_trie.proofs.links.move_last.Goals as goal

pub replace-requires-clause-not_old_left : goal.replace-requires-clause-not_old_left
replace-requires-clause-not_old_left c =
    let leads : get_or c.args.links.now c.link_of-at.result 0 ≡ c.args.last =
    leads_to_last _ _ _ _ _ _ c.requires.trie (omega arith) c.link_of-at.ensures (c.as_slice.ensures.value ∙ c.copy_of-moved.ensures) in
    let other : get_or c.args.links.now c.link_of-at.result 0 ≢ c.args.node = omega arith in
    no_own _ _ _ _ c.requires.trie c.link_of-at.result _ c.link_of-at.ensures.some other (omega arith) (omega arith)

pub replace-requires-clause-not_old_right : goal.replace-requires-clause-not_old_right
replace-requires-clause-not_old_right c =
    let leads : get_or c.args.links.now c.link_of-at.result 0 ≡ c.args.last =
    leads_to_last _ _ _ _ _ _ c.requires.trie (omega arith) c.link_of-at.ensures (c.as_slice.ensures.value ∙ c.copy_of-moved.ensures) in
    let other : get_or c.args.links.now c.link_of-at.result 0 ≢ c.args.node = omega arith in
    no_own _ _ _ _ c.requires.trie c.link_of-at.result _ c.link_of-at.ensures.some other (omega arith) (omega arith)

pub returns-clause-trie : goal.returns-clause-trie
returns-clause-trie c =
    let t = c.requires.trie in
    let leads : get_or c.args.links.now c.link_of-at.result 0 ≡ c.args.last =
    leads_to_last _ _ _ _ _ _ t (omega arith) c.link_of-at.ensures (c.as_slice.ensures.value ∙ c.copy_of-moved.ensures) in
    let bytes : c.as_slice-2.result.now ≡ key_of c.args.keys.now c.args.last = c.as_slice-2.ensures.value ∙ c.copy_of-moved.ensures in
    let size : length c.as_slice-2.result.now ≡ length (key_of c.args.keys.now c.args.node) = ap length bytes ∙ t.alike c.args.last c.args.node (omega arith) (omega (arith, t.linked.few)) c.requires.some (omega (arith, t.linked.few)) in
    let written : c.write.new.self ≡ set c.args.keys.now (c.args.node - 1) (key_of c.args.keys.now c.args.last) =
    c.write.ensures ∙ ap (set c.args.keys.now (c.args.node - 1)) (overwritten-whole (get_or c.args.keys.now (c.args.node - 1) []) c.as_slice-2.result.now size ∙ bytes) in
    subst (λ keys. IsTrie (c.args.last - 1) c.replace.new.links keys 0) (sym written)
    (renumbered _ _ _ _ _ _ t c.requires.some c.requires.below leads c.replace.auto.links c.replace.ensures)

pub returns-clause-keys : goal.returns-clause-keys
returns-clause-keys c =
    let t = c.requires.trie in
    let bytes : c.as_slice-2.result.now ≡ key_of c.args.keys.now c.args.last = c.as_slice-2.ensures.value ∙ c.copy_of-moved.ensures in
    let size : length c.as_slice-2.result.now ≡ length (key_of c.args.keys.now c.args.node) = ap length bytes ∙ t.alike c.args.last c.args.node (omega arith) (omega (arith, t.linked.few)) c.requires.some (omega (arith, t.linked.few)) in
    c.write.ensures ∙ ap (set c.args.keys.now (c.args.node - 1)) (overwritten-whole (get_or c.args.keys.now (c.args.node - 1) []) c.as_slice-2.result.now size ∙ bytes)
