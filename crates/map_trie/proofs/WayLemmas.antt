-- Ways through a trie: that one place has one way, and how ways go on where a link changes.
use Rattle.std.proofs.Common.{◌≡◌, ◌≢◌, ℕ, zero, suc, ◌+◌, ◌*◌, ◌<◌, ◌≤◌, refl, sym, ap, ap₂, subst, ◌∙◌, arith, add-one, ◌⊎◌, inl, inr}
use Rattle.std.proofs.lemmas.Bool.{cases_lt}
use Rattle.map_trie.specs.Ways.{way, IsPlaced, IsLinked}

pub way_next : (links : ℕ → ℕ) (root : ℕ) (bits : ℕ → ℕ) (depth : ℕ) → way links root bits (depth + 1) ≡ 2 * links (way links root bits depth) + bits depth
way_next links root bits depth = rw add-one refl

-- ways by the same bits are the same
pub same_bits : (links : ℕ → ℕ) (root : ℕ) (a b : ℕ → ℕ) (depth : ℕ) → ((k : ℕ) → k < depth → a k ≡ b k) → way links root a depth ≡ way links root b depth
same_bits links root a b zero same = refl
same_bits links root a b (suc depth) same =
    ap₂ (λ i bit. 2 * links i + bit) (same_bits links root a b depth (λ k lt. same k (omega arith))) (same depth (omega arith))

-- a way that does not meet the one link that changed
pub kept : (links is : ℕ → ℕ) (root at : ℕ) (bits : ℕ → ℕ) (depth : ℕ) → ((i : ℕ) → i ≢ at → is i ≡ links i) → ((k : ℕ) → k < depth → way links root bits k ≢ at) → way is root bits depth ≡ way links root bits depth
kept links is root at bits zero others past = refl
kept links is root at bits (suc depth) others past =
    ap (λ i. 2 * is i + bits depth) (kept links is root at bits depth others (λ k lt. past k (omega arith)))
    ∙ ap (λ node. 2 * node + bits depth) (others (way links root bits depth) (past depth (omega arith)))

-- two ways that lead to one link
pub record IsOneWay (links : ℕ → ℕ) (root : ℕ) (a b : ℕ → ℕ) (d e : ℕ) : Type 0 where
  pub depth : d ≡ e
  pub ways : (k : ℕ) → k ≤ d → way links root a k ≡ way links root b k
  pub bits : (k : ℕ) → k < d → a k ≡ b k

-- the parts of a link's number
pub parts : (u v a b : ℕ) → a < 2 → b < 2 → 2 * u + a ≡ 2 * v + b → (u ≡ v) × (a ≡ b)
parts u v a b x y e = (omega arith, omega arith)

module _ (room count apart : ℕ) (links : ℕ → ℕ) (bits : ℕ → ℕ → ℕ) (long : ℕ → ℕ) (t : IsLinked room count links bits long apart) where
  -- a way that goes on from no node stays there
  pub some_before : (a : ℕ → ℕ) (d : ℕ) → a d < 2 → 0 < links (way links (2 * room + 2) a (suc d)) → 0 < links (way links (2 * room + 2) a d)
  some_before a d low some = cases (cases_lt 0 (links (way links (2 * room + 2) a d)))
    where
      cases : (0 < links (way links (2 * room + 2) a d)) ⊎ (links (way links (2 * room + 2) a d) ≤ 0) → 0 < links (way links (2 * room + 2) a d)
      cases (inl more) = more
      cases (inr none) = absurd (omega (arith, t.nothing (way links (2 * room + 2) a (suc d)) (omega arith)))

  pub earlier : (a : ℕ → ℕ) → ((k : ℕ) → a k < 2) → (d k : ℕ) → k ≤ d → 0 < links (way links (2 * room + 2) a d) → 0 < links (way links (2 * room + 2) a k)
  earlier a low zero k le some = let z : 0 ≡ k = omega arith in subst (λ j. 0 < links (way links (2 * room + 2) a j)) z some
  earlier a low (suc d) k le some = cases (λ lt. earlier a low d k lt (some_before a d (low d) some)) (cases_lt k (suc d))
    where
      cases : (k ≤ d → 0 < links (way links (2 * room + 2) a k)) → (k < suc d) ⊎ (suc d ≤ k) → 0 < links (way links (2 * room + 2) a k)
      cases before (inl lt) = before (omega arith)
      cases before (inr more) = let z : suc d ≡ k = omega arith in subst (λ j. 0 < links (way links (2 * room + 2) a j)) z some

  pub one_way : (a b : ℕ → ℕ) → ((k : ℕ) → a k < 2) → ((k : ℕ) → b k < 2) → (d e : ℕ) → way links (2 * room + 2) a d ≡ way links (2 * room + 2) b e → 0 < links (way links (2 * room + 2) a d)
      → IsOneWay links (2 * room + 2) a b d e
  one_way a b la lb zero zero same some = record {
    depth = refl;
    ways = λ k le. let z : k ≡ 0 = omega arith in ap (way links (2 * room + 2) a) z ∙ sym (ap (way links (2 * room + 2) b) z);
    bits = λ k lt. absurd (omega arith);
  }
  one_way a b la lb zero (suc e) same some = absurd (omega (arith, t.below (way links (2 * room + 2) b e), t.few, lb e))
  one_way a b la lb (suc d) zero same some = absurd (omega (arith, t.below (way links (2 * room + 2) a d), t.few, la d))
  one_way a b la lb (suc d) (suc e) same some =
      let p = parts _ _ (a d) (b e) (la d) (lb e) same in
      let more : 0 < links (way links (2 * room + 2) a d) = some_before a d (la d) some in
      further p.1 (one_way a b la lb d e (t.once _ _ p.0 more) more)
    where
      up_to : IsOneWay links (2 * room + 2) a b d e → (k : ℕ) → k ≤ suc d → (k < suc d) ⊎ (suc d ≤ k) → way links (2 * room + 2) a k ≡ way links (2 * room + 2) b k
      up_to h k le (inl lt) = h.ways k (omega arith)
      up_to h k le (inr past) =
          let z : k ≡ suc d = omega arith in
          ap (way links (2 * room + 2) a) z ∙ same ∙ sym (ap (way links (2 * room + 2) b) (z ∙ ap suc h.depth))

      before : a d ≡ b e → IsOneWay links (2 * room + 2) a b d e → (k : ℕ) → k < suc d → (k < d) ⊎ (d ≤ k) → a k ≡ b k
      before bit h k lt (inl less) = h.bits k less
      before bit h k lt (inr le) = let z : k ≡ d = omega arith in ap a z ∙ bit ∙ sym (ap b (z ∙ h.depth))

      further : a d ≡ b e → IsOneWay links (2 * room + 2) a b d e → IsOneWay links (2 * room + 2) a b (suc d) (suc e)
      further bit h = record {
        depth = ap suc h.depth;
        ways = λ k le. up_to h k le (cases_lt k (suc d));
        bits = λ k lt. before bit h k lt (cases_lt k d);
      }

  -- the node that a link leads to has its way there
  pub way_to : (a : ℕ → ℕ) (d v : ℕ) → ((k : ℕ) → a k < 2) → 0 < v → links (way links (2 * room + 2) a d) ≡ v → (p : IsPlaced links (2 * room + 2) (bits v) (long v) v) → IsOneWay links (2 * room + 2) a (bits v) d p.depth
  way_to a d v low some at p = one_way a (bits v) low (t.low v) d p.depth (t.once _ _ (at ∙ sym p.at) (omega arith)) (omega arith)
