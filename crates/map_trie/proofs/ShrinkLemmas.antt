-- A node that goes: a node without links below it takes its place, and the last node takes its number.
use Rattle.std.proofs.Common.{◌≡◌, ◌≢◌, ℕ, zero, suc, ◌+◌, ◌*◌, ◌<◌, ◌≤◌, sym, ap, subst, ◌∙◌, arith, ◌⊎◌, inl, inr}
use Rattle.std.proofs.lemmas.Bool.{cases_lt, cases_eq}
use Rattle.map_trie.specs.Ways.{way, IsPlaced, IsLinked, IsUnder}
use Rattle.map_trie.proofs.WayLemmas.{one_way, kept, earlier, parts}

-- nodes with other keys
pub rekeyed : (room count apart : ℕ) (links : ℕ → ℕ) (bits other_bits : ℕ → ℕ → ℕ) (long other_long : ℕ → ℕ) → IsLinked room count links bits long apart → ((node depth : ℕ) → other_bits node depth < 2)
    → ((node : ℕ) → 0 < node → node ≤ count → node ≢ apart → (other_bits node ≡ bits node) × (other_long node ≡ long node)) → IsLinked room count links other_bits other_long apart
rekeyed room count apart links bits other_bits long other_long t low same = record {
  few = t.few;
  low = low;
  below = t.below;
  once = t.once;
  nothing = t.nothing;
  fresh = t.fresh;
  off = t.off;
  bare = t.bare;
  placed = λ v sv within other.
      let p = t.placed v sv within other in
      let s = same v sv within other in
      record { depth = p.depth; within = subst (λ n. p.depth ≤ n) (sym s.1) p.within; at = ap (λ (b : ℕ → ℕ). links (way links (2 * room + 2) b p.depth)) s.0 ∙ p.at };
}

-- the last node is apart, and gone
pub ended : (room count : ℕ) (links : ℕ → ℕ) (bits : ℕ → ℕ → ℕ) (long : ℕ → ℕ) → IsLinked room (count + 1) links bits long (count + 1) → IsLinked room count links bits long 0
ended room count links bits long t = record {
  few = omega (arith, t.few);
  low = t.low;
  below = λ i. let other : links i ≢ count + 1 = t.off (omega arith) i in omega (arith, t.below i);
  once = t.once;
  nothing = t.nothing;
  fresh = λ i from to. cases i from to (cases_lt (2 * (count + 1) + 1) i);
  off = λ none. absurd (omega arith);
  bare = λ i from to. t.nothing i (omega arith);
  placed = λ v sv within other. t.placed v sv (omega arith) (omega arith);
}
  where
    cases : (i : ℕ) → 2 * count + 1 < i → i ≤ 2 * room + 1 → (2 * (count + 1) + 1 < i) ⊎ (i ≤ 2 * (count + 1) + 1) → links i ≡ 0
    cases i from to (inl past) = t.fresh i past to
    cases i from to (inr le) = t.bare i (omega arith) le

module _ (room count apart : ℕ) (links : ℕ → ℕ) (bits : ℕ → ℕ → ℕ) (long : ℕ → ℕ) (t : IsLinked room count links bits long apart) where
  -- ---- the way to a node
  -- a node on the way to another
  pub met_before : (v depth : ℕ) → 0 < v → (p : IsPlaced links (2 * room + 2) (bits v) (long v) v) → depth ≤ p.depth → 0 < links (way links (2 * room + 2) (bits v) depth)
  met_before v depth some p le = earlier room count apart links bits long t (bits v) (t.low v) p.depth depth le (omega (arith, p.at))

  pub deeper : (v depth : ℕ) (p : IsPlaced links (2 * room + 2) (bits v) (long v) v) → depth ≤ p.depth → links (way links (2 * room + 2) (bits v) depth) ≢ v → depth + 1 ≤ p.depth
  deeper v depth p le other = cases (cases_lt depth p.depth)
    where
      cases : (depth < p.depth) ⊎ (p.depth ≤ depth) → depth + 1 ≤ p.depth
      cases (inl lt) = omega arith
      cases (inr ge) = let same : depth ≡ p.depth = omega arith in absurd (other (ap (λ d. links (way links (2 * room + 2) (bits v) d)) same ∙ p.at))

  -- ---- a node below
  pub under_itself : (at v : ℕ) → links at ≡ v → 0 < v → v ≤ count → v ≢ apart → IsUnder (2 * room + 2) links bits long at v 0
  under_itself at v here some within other =
      let p = t.placed v some within other in
      let there : way links (2 * room + 2) (bits v) p.depth ≡ at = t.once _ at (p.at ∙ sym here) (omega (arith, p.at)) in
      let whole : p.depth + 0 ≡ p.depth = omega arith in
      record { above = p.depth; within = omega (arith, p.within); start = there; end = ap (λ d. links (way links (2 * room + 2) (bits v) d)) whole ∙ p.at }

  under_at : (top node next b down d : ℕ) → IsUnder (2 * room + 2) links bits long top node down → 0 < node → node ≤ count → b < 2 → 0 < next → links (2 * node + b) ≡ next → d ≤ long next → links (way links (2 * room + 2) (bits next) d) ≡ next
      → IsUnder (2 * room + 2) links bits long top next (down + 1)
  under_at top node next b down zero u some within small held met deep at = absurd (omega (arith, t.once (2 * room + 2) (2 * node + b) (at ∙ sym met) (omega arith), t.few))
  under_at top node next b down (suc e) u some within small held met deep at =
      let same : 2 * links (way links (2 * room + 2) (bits next) e) + bits next e ≡ 2 * node + b = t.once _ _ (at ∙ sym met) (omega arith) in
      let p = parts _ _ (bits next e) b (t.low next e) small same in
      let meets : way links (2 * room + 2) (bits node) (u.above + down) ≡ way links (2 * room + 2) (bits next) e = t.once _ _ (u.end ∙ sym p.0) (omega (arith, u.end)) in
      let w = one_way room count apart links bits long t (bits node) (bits next) (t.low node) (t.low next) (u.above + down) e meets (omega (arith, u.end)) in
      let whole : u.above + (down + 1) ≡ suc e = omega (arith, w.depth) in
      record {
        above = u.above;
        within = omega arith;
        start = sym (w.ways u.above (omega arith)) ∙ u.start;
        end = ap (λ d. links (way links (2 * room + 2) (bits next) d)) whole ∙ at;
      }

  pub under_more : (top node next b down : ℕ) → IsUnder (2 * room + 2) links bits long top node down → 0 < node → node ≤ count → b < 2 → 0 < next → links (2 * node + b) ≡ next → next ≢ apart → IsUnder (2 * room + 2) links bits long top next (down + 1)
  under_more top node next b down u some within small held met other =
      let p = t.placed next held (omega (arith, t.below (2 * node + b))) other in
      under_at top node next b down p.depth u some within small held met p.within p.at

-- ---- a node without links goes
module _ (room count : ℕ) (links : ℕ → ℕ) (bits : ℕ → ℕ → ℕ) (long : ℕ → ℕ) (t : IsLinked room count links bits long 0) (is : ℕ → ℕ) (at leaf : ℕ) (some : 0 < leaf) (here : links at ≡ leaf)
    (bare : (i : ℕ) → 2 * leaf ≤ i → i ≤ 2 * leaf + 1 → links i ≡ 0) (gone : is at ≡ 0) (others : (i : ℕ) → i ≢ at → is i ≡ links i) where
  same_way : (a : ℕ → ℕ) (d : ℕ) → ((k : ℕ) → k < d → way links (2 * room + 2) a k ≢ at) → way is (2 * room + 2) a d ≡ way links (2 * room + 2) a d
  same_way a d past = kept links is (2 * room + 2) at a d others past

  -- no way goes on from there to a node
  past_leaf : (a : ℕ → ℕ) (d k : ℕ) → ((j : ℕ) → a j < 2) → 0 < links (way links (2 * room + 2) a d) → k < d → way links (2 * room + 2) a k ≢ at
  past_leaf a d k low held lt e =
      let next : 0 < links (way links (2 * room + 2) a (suc k)) = earlier room count 0 links bits long t a low d (suc k) (omega arith) held in
      let node : links (way links (2 * room + 2) a k) ≡ leaf = ap links e ∙ here in
      absurd (omega (arith, bare (way links (2 * room + 2) a (suc k)) (omega arith) (omega (arith, low k))))

  none_more : (i : ℕ) → (i ≡ at) ⊎ (i ≡ at → ⊥) → (links i ≡ 0) ⊎ (i ≡ at) → is i ≡ 0
  none_more i (inl e) _ = ap is e ∙ gone
  none_more i (inr a) (inl none) = others i a ∙ none
  none_more i (inr a) (inr e) = absurd (a e)

  below_left : (i : ℕ) → (i ≡ at) ⊎ (i ≡ at → ⊥) → is i ≤ count
  below_left i (inl e) = omega (arith, ap is e)
  below_left i (inr a) = omega (arith, others i a, t.below i)

  once_left : (i j : ℕ) → is i ≡ is j → 0 < is i → (i ≡ at) ⊎ (i ≡ at → ⊥) → (j ≡ at) ⊎ (j ≡ at → ⊥) → i ≡ j
  once_left i j e held (inl p) _ = absurd (omega (arith, ap is p))
  once_left i j e held (inr p) (inl q) = absurd (omega (arith, ap is q))
  once_left i j e held (inr p) (inr q) = t.once i j (sym (others i p) ∙ e ∙ others j q) (omega (arith, others i p))

  off_left : (i : ℕ) → is i ≡ leaf → (i ≡ at) ⊎ (i ≡ at → ⊥) → ⊥
  off_left i e (inl p) = omega (arith, ap is p)
  off_left i e (inr a) = a (t.once i at (sym (others i a) ∙ e ∙ sym here) (omega (arith, others i a)))

  pub pruned : IsLinked room count is bits long leaf
  pruned = record {
    few = t.few;
    low = t.low;
    below = λ i. below_left i (cases_eq i at);
    once = λ i j e held. once_left i j e held (cases_eq i at) (cases_eq j at);
    nothing = λ i le. none_more i (cases_eq i at) (inl (t.nothing i le));
    fresh = λ i from to. none_more i (cases_eq i at) (inl (t.fresh i from to));
    off = λ _ i e. off_left i e (cases_eq i at);
    bare = λ i from to. none_more i (cases_eq i at) (inl (bare i from to));
    placed = λ v sv within other.
        let p = t.placed v sv within (omega arith) in
        let met : way is (2 * room + 2) (bits v) p.depth ≡ way links (2 * room + 2) (bits v) p.depth = same_way (bits v) p.depth (λ k lt. past_leaf (bits v) p.depth k (t.low v) (omega (arith, p.at)) lt) in
        record { depth = p.depth; within = p.within; at = ap is met ∙ others _ (λ e. other (sym p.at ∙ ap links e ∙ here)) ∙ p.at };
  }

  -- the way of the leaf to a link above is as it was
  pub start_left : (top down : ℕ) → (u : IsUnder (2 * room + 2) links bits long top leaf down) → way is (2 * room + 2) (bits leaf) u.above ≡ top
  start_left top down u = same_way (bits leaf) u.above (λ k lt e. apart k lt e) ∙ u.start
    where
      apart : (k : ℕ) → k < u.above → way links (2 * room + 2) (bits leaf) k ≡ at → ⊥
      apart k lt e =
          let meets : way links (2 * room + 2) (bits leaf) k ≡ way links (2 * room + 2) (bits leaf) (u.above + down) = t.once _ _ (ap links e ∙ here ∙ sym u.end) (omega (arith, ap links e)) in
          omega (arith, (one_way room count 0 links bits long t (bits leaf) (bits leaf) (t.low leaf) (t.low leaf) k (u.above + down) meets (omega (arith, ap links e))).depth)
