-- The last node with the number of one that is gone.
use Rattle.std.proofs.Common.{◌≡◌, ◌≢◌, ℕ, ◌+◌, ◌-◌, ◌*◌, ◌<◌, ◌≤◌, List, [], length, set, sym, ap, subst, ◌∙◌, arith, ◌⊎◌, inl, inr, get_or-set_same, get_or-set_other, length-set}
use Rattle.std.specs.List.{slice_index}
use Rattle.std.proofs.lemmas.Bool.{cases_eq}
use Rattle.bt_mapkind.specs.Prefix.{prefix_length}
use Rattle.map_trie.specs.Ways.{way, bit_of, IsLinked, IsPlaced, Replaces}
use Rattle.map_trie.specs.Trie.{IsStored, IsTrie, LeadsTo, key_of}
use Rattle.map_trie.proofs.ReplaceLemmas.{replaced}
use Rattle.map_trie.proofs.ShrinkLemmas.{rekeyed, ended}
use Rattle.map_trie.proofs.BitLemmas.{bit_low}
use Rattle.map_trie.proofs.TrieLemmas.{bits_of, long_of}

module _ (keys : List (List ℕ)) (node : ℕ) (key : List ℕ) (some : 0 < node) (within : node ≤ length keys) where
  pub key_other : (v : ℕ) → 0 < v → v ≢ node → key_of (set keys (node - 1) key) v ≡ key_of keys v
  key_other v sv other = let differ : v - 1 ≢ node - 1 = omega arith in get_or-set_other keys (node - 1) (v - 1) key [] differ

  pub key_here : key_of (set keys (node - 1) key) node ≡ key
  key_here = get_or-set_same keys (node - 1) key [] (omega arith)

module _ (last : ℕ) (links new : List ℕ) (keys : List (List ℕ)) (node at : ℕ) (t : IsTrie last links keys node) (some : 0 < node) (under : node < last) (here : slice_index links at ≡ last) (long : length new ≡ length links)
    (r : Replaces (slice_index links) (slice_index new) at last node) where
  within : node ≤ length keys
  within = omega (arith, t.linked.few)

  other : (v : ℕ) → 0 < v → v ≢ node → key_of (set keys (node - 1) (key_of keys last)) v ≡ key_of keys v
  other = key_other keys node (key_of keys last) some within

  same : key_of (set keys (node - 1) (key_of keys last)) node ≡ key_of keys last
  same = key_here keys node (key_of keys last) some within

  last_place : IsPlaced (slice_index links) (2 * length keys + 2) (bits_of keys last) (long_of keys last) last
  last_place = t.linked.placed last (omega arith) (omega arith) (omega arith)

  -- a property of the keys that stay
  each : (P : List ℕ → Type 0) → ((v : ℕ) → 0 < v → v ≤ last → P (key_of keys v)) → (v : ℕ) → 0 < v → v ≤ last → P (key_of (set keys (node - 1) (key_of keys last)) v)
  each P all v sv le = cases (cases_eq v node)
    where
      cases : (v ≡ node) ⊎ (v ≡ node → ⊥) → P (key_of (set keys (node - 1) (key_of keys last)) v)
      cases (inl e) = subst (λ n. P (key_of (set keys (node - 1) (key_of keys last)) n)) (sym e) (subst P (sym same) (all last (omega arith) (omega arith)))
      cases (inr a) = subst P (sym (other v sv a)) (all v sv le)

  sized : (v : ℕ) → 0 < v → v ≤ length keys → (v ≡ node) ⊎ (v ≡ node → ⊥) → length (key_of (set keys (node - 1) (key_of keys last)) v) ≡ length (key_of keys node)
  sized v sv le (inl e) = ap (λ n. length (key_of (set keys (node - 1) (key_of keys last)) n)) e ∙ ap length same ∙ t.alike last node (omega arith) (omega (arith, t.linked.few)) some within
  sized v sv le (inr a) = ap length (other v sv a) ∙ t.alike v node sv le some within

  differ : (v w : ℕ) → 0 < v → v < last → 0 < w → w < last → key_of (set keys (node - 1) (key_of keys last)) v ≡ key_of (set keys (node - 1) (key_of keys last)) w → (v ≡ node) ⊎ (v ≡ node → ⊥) → (w ≡ node) ⊎ (w ≡ node → ⊥) → v ≡ w
  differ v w sv lv sw lw e (inl p) (inl q) = p ∙ sym q
  differ v w sv lv sw lw e (inl p) (inr q) =
      absurd (omega (arith, t.distinct last w (omega arith) (omega arith) sw (omega arith) (sym same ∙ sym (ap (key_of (set keys (node - 1) (key_of keys last))) p) ∙ e ∙ other w sw q)))
  differ v w sv lv sw lw e (inr p) (inl q) =
      absurd (omega (arith, t.distinct last v (omega arith) (omega arith) sv (omega arith) (sym same ∙ sym (ap (key_of (set keys (node - 1) (key_of keys last))) q) ∙ sym e ∙ other v sv p)))
  differ v w sv lv sw lw e (inr p) (inr q) = t.distinct v w sv (omega arith) sw (omega arith) (sym (other v sv p) ∙ e ∙ other w sw q)

  linked : IsLinked (length keys) last (slice_index new) (bits_of (set keys (node - 1) (key_of keys last))) (long_of (set keys (node - 1) (key_of keys last))) last
  linked =
      let again : IsLinked (length keys) last (slice_index links) (bits_of (set keys (node - 1) (key_of keys last))) (long_of (set keys (node - 1) (key_of keys last))) node =
      rekeyed (length keys) last node (slice_index links) (bits_of keys) (bits_of (set keys (node - 1) (key_of keys last))) (long_of keys) (long_of (set keys (node - 1) (key_of keys last))) t.linked (λ v d. bit_low _ d)
      (λ v sv le a. (ap bit_of (other v sv a), ap prefix_length (other v sv a))) in
      let there : way (slice_index links) (2 * length keys + 2) (bits_of (set keys (node - 1) (key_of keys last)) node) last_place.depth ≡ at =
      ap (λ k. way (slice_index links) (2 * length keys + 2) (bit_of k) last_place.depth) same ∙ t.linked.once _ at (last_place.at ∙ sym here) (omega (arith, last_place.at)) in
      replaced (length keys) last node (slice_index links) (bits_of (set keys (node - 1) (key_of keys last))) (long_of (set keys (node - 1) (key_of keys last))) again (slice_index new) at last last_place.depth some (omega arith) (omega arith) here there r
      (omega (arith, last_place.within, ap prefix_length same))

  pub renumbered : IsTrie (last - 1) new (set keys (node - 1) (key_of keys last)) 0
  renumbered =
      let size : length (set keys (node - 1) (key_of keys last)) ≡ length keys = length-set keys (node - 1) (key_of keys last) in
      let whole : last ≡ last - 1 + 1 = omega arith in
      record {
        linked = subst (λ n. IsLinked n (last - 1) (slice_index new) (bits_of (set keys (node - 1) (key_of keys last))) (long_of (set keys (node - 1) (key_of keys last))) 0) (sym size)
            (ended (length keys) (last - 1) (slice_index new) (bits_of (set keys (node - 1) (key_of keys last))) (long_of (set keys (node - 1) (key_of keys last)))
            (subst (λ n. IsLinked (length keys) n (slice_index new) (bits_of (set keys (node - 1) (key_of keys last))) (long_of (set keys (node - 1) (key_of keys last))) n) whole linked));
        few = omega (arith, t.few);
        root = omega (arith, t.root);
        stored = λ v sv le. each IsStored t.stored v sv (omega arith);
        alike = λ v w sv lv sw lw. sized v sv (omega arith) (cases_eq v node) ∙ sym (sized w sw (omega arith) (cases_eq w node));
        distinct = λ v w sv lv sw lw e. differ v w sv (omega arith) sw (omega arith) e (cases_eq v node) (cases_eq w node);
      }

-- the last node itself is gone
pub dropped : (last : ℕ) (links : List ℕ) (keys : List (List ℕ)) → 0 < last → IsTrie last links keys last → IsTrie (last - 1) links keys 0
dropped last links keys some t =
    let whole : last ≡ last - 1 + 1 = omega arith in
    record {
      linked = ended (length keys) (last - 1) (slice_index links) (bits_of keys) (long_of keys) (subst (λ n. IsLinked (length keys) n (slice_index links) (bits_of keys) (long_of keys) n) whole t.linked);
      few = t.few;
      root = t.root;
      stored = λ v sv le. t.stored v sv (omega arith);
      alike = t.alike;
      distinct = λ v w sv lv sw lw. t.distinct v w sv (omega arith) sw (omega arith);
    }

-- a link that leads to the last node's key leads to it
pub leads_to_last : (last node : ℕ) (links : List ℕ) (keys : List (List ℕ)) (key : List ℕ) (at : ℕ) → IsTrie last links keys node → 0 < last → LeadsTo links keys key at → key ≡ key_of keys last → slice_index links at ≡ last
leads_to_last last node links keys key at t some h same = t.distinct (slice_index links at) last h.some (t.linked.below at) some (omega arith) (h.is ∙ same)
