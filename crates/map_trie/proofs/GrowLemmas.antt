-- A node that comes: it goes down its way until there is no node, or takes the place of one that has more bits.
use Rattle.std.proofs.Common.{◌≡◌, ◌≢◌, ℕ, zero, suc, ◌+◌, ◌*◌, ◌<◌, ◌≤◌, refl, sym, ap, subst, ◌∙◌, arith, ◌⊎◌, inl, inr}
use Rattle.std.proofs.lemmas.Bool.{cases_lt, cases_eq}
use Rattle.map_trie.specs.Ways.{way, IsPlaced, IsLinked, Replaces}
use Rattle.map_trie.proofs.WayLemmas.{IsOneWay, one_way, kept, earlier, way_next}
use Rattle.map_trie.proofs.ReplaceLemmas.{replaced, leads_to_new}

-- one node more, which is apart
pub begun : (room count : ℕ) (links : ℕ → ℕ) (bits more_bits : ℕ → ℕ → ℕ) (long more_long : ℕ → ℕ) → IsLinked room count links bits long 0 → count < room → ((node depth : ℕ) → more_bits node depth < 2)
    → ((node : ℕ) → 0 < node → node ≤ count → (more_bits node ≡ bits node) × (more_long node ≡ long node)) → IsLinked room (count + 1) links more_bits more_long (count + 1)
begun room count links bits more_bits long more_long t some low same = record {
  few = omega arith;
  low = low;
  below = λ i. omega (arith, t.below i);
  once = t.once;
  nothing = t.nothing;
  fresh = λ i from to. t.fresh i (omega arith) to;
  off = λ _ i e. omega (arith, t.below i);
  bare = λ i from to. t.fresh i (omega arith) (omega arith);
  placed = λ v sv within other.
      let p = t.placed v sv (omega arith) (omega arith) in
      let s = same v sv (omega arith) in
      record { depth = p.depth; within = subst (λ n. p.depth ≤ n) (sym s.1) p.within; at = ap (λ (b : ℕ → ℕ). links (way links (2 * room + 2) b p.depth)) s.0 ∙ p.at };
}

module _ (room count apart : ℕ) (links : ℕ → ℕ) (bits : ℕ → ℕ → ℕ) (long : ℕ → ℕ) (t : IsLinked room count links bits long apart) where
  -- a way leads to the root's link or to one of a node
  pub way_range : (a : ℕ → ℕ) (d : ℕ) → ((k : ℕ) → a k < 2) → (way links (2 * room + 2) a d ≡ 2 * room + 2) ⊎ (way links (2 * room + 2) a d ≤ 2 * count + 1)
  way_range a zero low = inl refl
  way_range a (suc d) low = inr (omega (arith, t.below (way links (2 * room + 2) a d), low d))

  pub real_before : (a : ℕ → ℕ) (d k : ℕ) → ((j : ℕ) → a j < 2) → 1 < way links (2 * room + 2) a d → k < d → 0 < links (way links (2 * room + 2) a k)
  real_before a zero k low real lt = absurd (omega arith)
  real_before a (suc d) k low real lt = earlier room count apart links bits long t a low d k (omega arith) (omega (arith, low d))

module _ (room count carried : ℕ) (links : ℕ → ℕ) (bits : ℕ → ℕ → ℕ) (long : ℕ → ℕ) (t : IsLinked room count links bits long carried) (at depth : ℕ) (some : 0 < carried) (within : carried ≤ count)
    (there : way links (2 * room + 2) (bits carried) depth ≡ at) (deep : depth ≤ long carried) where
  -- ---- if there is no node
  module _ (is : ℕ → ℕ) (none : links at ≡ 0) (real : 1 < at) (here : is at ≡ carried) (others : (i : ℕ) → i ≢ at → is i ≡ links i) where
    same_way : (a : ℕ → ℕ) (d : ℕ) → ((k : ℕ) → k < d → 0 < links (way links (2 * room + 2) a k)) → way is (2 * room + 2) a d ≡ way links (2 * room + 2) a d
    same_way a d held = kept links is (2 * room + 2) at a d others (λ k lt e. omega (arith, held k lt, ap links e))

    at_below : (i : ℕ) → (i ≡ at) ⊎ (i ≡ at → ⊥) → is i ≤ count
    at_below i (inl e) = omega (arith, ap is e)
    at_below i (inr a) = omega (arith, others i a, t.below i)

    at_once : (i j : ℕ) → is i ≡ is j → 0 < is i → (i ≡ at) ⊎ (i ≡ at → ⊥) → (j ≡ at) ⊎ (j ≡ at → ⊥) → i ≡ j
    at_once i j e held (inl p) (inl q) = p ∙ sym q
    at_once i j e held (inl p) (inr q) = absurd (t.off some j (sym (others j q) ∙ sym e ∙ ap is p ∙ here))
    at_once i j e held (inr p) (inl q) = absurd (t.off some i (sym (others i p) ∙ e ∙ ap is q ∙ here))
    at_once i j e held (inr p) (inr q) = t.once i j (sym (others i p) ∙ e ∙ others j q) (omega (arith, others i p))

    fresh_at : (i : ℕ) → 2 * count + 1 < i → i ≤ 2 * room + 1 → (way links (2 * room + 2) (bits carried) depth ≡ 2 * room + 2) ⊎ (way links (2 * room + 2) (bits carried) depth ≤ 2 * count + 1) → i ≢ at
    fresh_at i from to (inl e) = omega arith
    fresh_at i from to (inr le) = omega arith

    placed_at : (v : ℕ) → 0 < v → v ≤ count → (v ≡ carried) ⊎ (v ≡ carried → ⊥) → IsPlaced is (2 * room + 2) (bits v) (long v) v
    placed_at v sv le (inl e) =
        let met : way is (2 * room + 2) (bits carried) depth ≡ at = same_way (bits carried) depth (λ k lt. real_before room count carried links bits long t (bits carried) depth k (t.low carried) (omega arith) lt) ∙ there in
        subst (λ n. IsPlaced is (2 * room + 2) (bits n) (long n) n) (sym e) (record { depth = depth; within = deep; at = ap is met ∙ here })
    placed_at v sv le (inr a) =
        let p = t.placed v sv le a in
        let met : way is (2 * room + 2) (bits v) p.depth ≡ way links (2 * room + 2) (bits v) p.depth = same_way (bits v) p.depth (λ k lt. earlier room count carried links bits long t (bits v) (t.low v) p.depth k (omega arith) (omega (arith, p.at))) in
        record { depth = p.depth; within = p.within; at = ap is met ∙ others _ (λ e. omega (arith, p.at, ap links e)) ∙ p.at }

    pub ended : IsLinked room count is bits long 0
    ended = record {
      few = t.few;
      low = t.low;
      below = λ i. at_below i (cases_eq i at);
      once = λ i j e held. at_once i j e held (cases_eq i at) (cases_eq j at);
      nothing = λ i le. others i (omega arith) ∙ t.nothing i le;
      fresh = λ i from to. others i (fresh_at i from to (way_range room count carried links bits long t (bits carried) depth (t.low carried))) ∙ t.fresh i from to;
      off = λ none_apart. absurd (omega arith);
      bare = λ i from to. others i (omega arith) ∙ t.nothing i (omega arith);
      placed = λ v sv le other. placed_at v sv le (cases_eq v carried);
    }

  -- ---- if there is one
  module _ (found : ℕ) (some_found : 0 < found) (met : links at ≡ found) where
    other_found : found ≢ carried
    other_found e = t.off some at (met ∙ e)

    found_placed : IsPlaced links (2 * room + 2) (bits found) (long found) found
    found_placed = t.placed found some_found (omega (arith, t.below at)) other_found

    found_way : IsOneWay links (2 * room + 2) (bits carried) (bits found) depth found_placed.depth
    found_way =
        one_way room count carried links bits long t (bits carried) (bits found) (t.low carried) (t.low found) depth found_placed.depth
        (there ∙ t.once at _ (met ∙ sym found_placed.at) (omega arith)) (omega (arith, ap links there))

    pub further : way links (2 * room + 2) (bits carried) (depth + 1) ≡ 2 * found + bits carried depth
    further = way_next links (2 * room + 2) (bits carried) depth ∙ ap (λ n. 2 * n + bits carried depth) (ap links there ∙ met)

    module _ (is : ℕ → ℕ) (r : Replaces links is at found carried) (short : long carried ≡ depth) (apart_keys : long found ≡ long carried → ((k : ℕ) → k < long carried → bits carried k ≡ bits found k) → ⊥) where
      pub swapped : IsLinked room count is bits long found
      swapped = replaced room count carried links bits long t is at found depth some within some_found met there r deep

      pub further_swapped : way is (2 * room + 2) (bits found) (depth + 1) ≡ 2 * carried + bits found depth
      further_swapped =
          way_next is (2 * room + 2) (bits found) depth
          ∙ ap (λ n. 2 * n + bits found depth)
          (leads_to_new room count carried links bits long t is at found depth some within some_found met there r (bits found) depth (t.low found)
          (ap links (sym (found_way.ways depth (omega arith)) ∙ there) ∙ met))

      deeper : (depth + 1 ≤ long found) ⊎ (long found < depth + 1) → depth + 1 ≤ long found
      deeper (inl le) = le
      deeper (inr lt) =
          let same : long found ≡ long carried = omega (arith, found_placed.within, found_way.depth) in
          absurd (apart_keys same (λ k under. found_way.bits k (omega arith)))

      pub deep_swapped : depth + 1 ≤ long found
      deep_swapped = deeper (cases (cases_lt (long found) (depth + 1)))
        where
          cases : (long found < depth + 1) ⊎ (depth + 1 ≤ long found) → (depth + 1 ≤ long found) ⊎ (long found < depth + 1)
          cases (inl a) = inr a
          cases (inr a) = inl a
