-- A node put in the place of another: what was below the other is below it, and the other is apart.
use Rattle.std.proofs.Common.{◌≡◌, ◌≢◌, ℕ, zero, suc, ◌+◌, ◌*◌, ◌<◌, ◌≤◌, refl, sym, ap, subst, ◌∙◌, arith, ◌⊎◌, inl, inr}
use Rattle.std.proofs.lemmas.Bool.{cases_lt, cases_eq}
use Rattle.map_trie.specs.Ways.{way, IsPlaced, IsLinked, Replaces}
use Rattle.map_trie.proofs.WayLemmas.{one_way}

-- where a link is found after one node took the place of another
pub record IsMoved (old new x y : ℕ) : Type 0 where
  pub stays : (x < 2 * old) ⊎ (2 * old + 1 < x) → y ≡ x
  pub left : x ≡ 2 * old → y ≡ 2 * new
  pub right : x ≡ 2 * old + 1 → y ≡ 2 * new + 1

moved_alike : (old new x y z : ℕ) → IsMoved old new x y → IsMoved old new x z → y ≡ z
moved_alike old new x y z m n = cases (cases_eq x (2 * old)) (cases_eq x (2 * old + 1)) (cases_lt x (2 * old)) (cases_lt (2 * old + 1) x)
  where
    cases : (x ≡ 2 * old) ⊎ (x ≡ 2 * old → ⊥) → (x ≡ 2 * old + 1) ⊎ (x ≡ 2 * old + 1 → ⊥) → (x < 2 * old) ⊎ (2 * old ≤ x) → (2 * old + 1 < x) ⊎ (x ≤ 2 * old + 1) → y ≡ z
    cases (inl e) _ _ _ = m.left e ∙ sym (n.left e)
    cases (inr _) (inl e) _ _ = m.right e ∙ sym (n.right e)
    cases (inr _) (inr _) (inl lt) _ = m.stays (inl lt) ∙ sym (n.stays (inl lt))
    cases (inr _) (inr _) (inr _) (inl lt) = m.stays (inr lt) ∙ sym (n.stays (inr lt))
    cases (inr a) (inr b) (inr c) (inr d) = absurd (omega arith)

module _ (room count apart : ℕ) (links : ℕ → ℕ) (bits : ℕ → ℕ → ℕ) (long : ℕ → ℕ) (t : IsLinked room count links bits long apart) where
  -- no way leads to the links of the node that is apart
  pub not_under_apart : (a : ℕ → ℕ) (d i : ℕ) → ((k : ℕ) → a k < 2) → 0 < apart → apart ≤ count → 2 * apart ≤ i → i ≤ 2 * apart + 1 → way links (2 * room + 2) a d ≢ i
  not_under_apart a zero i low some within from to e = absurd (omega (arith, t.few))
  not_under_apart a (suc d) i low some within from to e = t.off some (way links (2 * room + 2) a d) (omega (arith, low d))

  -- no node is below itself
  pub no_loop : (a : ℕ → ℕ) (d at old i : ℕ) → ((k : ℕ) → a k < 2) → way links (2 * room + 2) a d ≡ at → links at ≡ old → 0 < old → 2 * old ≤ i → i ≤ 2 * old + 1 → i ≢ at
  no_loop a zero at old i low there here some from to e = absurd (omega (arith, t.few, t.below at))
  no_loop a (suc d) at old i low there here some from to e =
      let node : links (way links (2 * room + 2) a d) ≡ old = omega (arith, low d) in
      let same : way links (2 * room + 2) a d ≡ way links (2 * room + 2) a (suc d) = t.once _ _ (node ∙ sym here) (omega arith) ∙ sym there in
      absurd (omega (arith, (one_way room count apart links bits long t a a low low d (suc d) same (omega arith)).depth))

module _ (room count new : ℕ) (links : ℕ → ℕ) (bits : ℕ → ℕ → ℕ) (long : ℕ → ℕ) (t : IsLinked room count links bits long new) (is : ℕ → ℕ) (at old depth : ℕ) (some_new : 0 < new) (new_within : new ≤ count) (some : 0 < old)
    (here : links at ≡ old) (there : way links (2 * room + 2) (bits new) depth ≡ at) (r : Replaces links is at old new) where
  differ : old ≢ new
  differ e = t.off some_new at (here ∙ e)

  apart_at : (i : ℕ) → 2 * old ≤ i → i ≤ 2 * old + 1 → i ≢ at
  apart_at i from to = no_loop room count new links bits long t (bits new) depth at old i (t.low new) there here some from to

  old_within : old ≤ count
  old_within = omega (arith, t.below at)

  moved_link : (a : ℕ → ℕ) (d y : ℕ) → ((k : ℕ) → a k < 2) → IsMoved old new (way links (2 * room + 2) a d) y
      → (links (way links (2 * room + 2) a d) ≡ old → is y ≡ new) × (links (way links (2 * room + 2) a d) ≢ old → is y ≡ links (way links (2 * room + 2) a d))
  moved_link a d y low m = cases (way links (2 * room + 2) a d) refl m (cases_eq (way links (2 * room + 2) a d) (2 * old)) (cases_eq (way links (2 * room + 2) a d) (2 * old + 1)) (cases_eq (way links (2 * room + 2) a d) at)
    where
      outside : (x : ℕ) → (x ≡ 2 * old → ⊥) → (x ≡ 2 * old + 1 → ⊥) → (x < 2 * old) ⊎ (2 * old + 1 < x)
      outside x a1 a2 = either (cases_lt x (2 * old))
        where
          either : (x < 2 * old) ⊎ (2 * old ≤ x) → (x < 2 * old) ⊎ (2 * old + 1 < x)
          either (inl lt) = inl lt
          either (inr le) = inr (omega arith)

      cases : (x : ℕ) → way links (2 * room + 2) a d ≡ x → IsMoved old new x y → (x ≡ 2 * old) ⊎ (x ≡ 2 * old → ⊥) → (x ≡ 2 * old + 1) ⊎ (x ≡ 2 * old + 1 → ⊥) → (x ≡ at) ⊎ (x ≡ at → ⊥) → (links x ≡ old → is y ≡ new) × (links x ≢ old → is y ≡ links x)
      cases x way_is m (inl e) _ _ = (
        λ same. absurd (apart_at x (omega arith) (omega arith) (t.once x at (same ∙ sym here) (omega arith))),
        λ other. ap is (m.left e) ∙ r.left ∙ ap links (sym e),
      )
      cases x way_is m (inr a1) (inl e) _ = (
        λ same. absurd (apart_at x (omega arith) (omega arith) (t.once x at (same ∙ sym here) (omega arith))),
        λ other. ap is (m.right e) ∙ r.right ∙ ap links (sym e),
      )
      cases x way_is m (inr a1) (inr a2) (inl e) =
          (λ same. ap is (m.stays (outside x a1 a2) ∙ e) ∙ r.here, λ other. absurd (other (ap links e ∙ here)))
      cases x way_is m (inr a1) (inr a2) (inr a3) = (
        λ same. absurd (a3 (t.once x at (same ∙ sym here) (omega arith))),
        λ other. ap is (m.stays (outside x a1 a2))
            ∙ r.others x a3 (λ e. not_under_apart room count new links bits long t a d x low some_new new_within (omega arith) (omega arith) way_is)
            (λ e. not_under_apart room count new links bits long t a d x low some_new new_within (omega arith) (omega arith) way_is) a1 a2,
      )

  moved_way : (a : ℕ → ℕ) (d : ℕ) → ((k : ℕ) → a k < 2) → IsMoved old new (way links (2 * room + 2) a d) (way is (2 * room + 2) a d)
  moved_way a zero low = record {
    stays = λ _. refl;
    left = λ e. absurd (omega (arith, old_within, t.few));
    right = λ e. absurd (omega (arith, old_within, t.few));
  }
  moved_way a (suc d) low = further (moved_link a d (way is (2 * room + 2) a d) low (moved_way a d low)) (cases_eq (links (way links (2 * room + 2) a d)) old) (low d)
    where
      further : (links (way links (2 * room + 2) a d) ≡ old → is (way is (2 * room + 2) a d) ≡ new) × (links (way links (2 * room + 2) a d) ≢ old → is (way is (2 * room + 2) a d) ≡ links (way links (2 * room + 2) a d))
          → (links (way links (2 * room + 2) a d) ≡ old) ⊎ (links (way links (2 * room + 2) a d) ≡ old → ⊥) → a d < 2 → IsMoved old new (2 * links (way links (2 * room + 2) a d) + a d) (2 * is (way is (2 * room + 2) a d) + a d)
      further f (inl e) small =
          let node : is (way is (2 * room + 2) a d) ≡ new = f.0 e in
          record {
            stays = λ out. absurd (inside out);
            left = λ is_left. omega arith;
            right = λ is_right. omega arith;
          }
        where
          inside : (2 * links (way links (2 * room + 2) a d) + a d < 2 * old) ⊎ (2 * old + 1 < 2 * links (way links (2 * room + 2) a d) + a d) → ⊥
          inside (inl lt) = omega arith
          inside (inr lt) = omega arith
      further f (inr other) small =
          let node : is (way is (2 * room + 2) a d) ≡ links (way links (2 * room + 2) a d) = f.1 other in
          record {
            stays = λ out. omega arith;
            left = λ e. absurd (omega arith);
            right = λ e. absurd (omega arith);
          }

  -- where a way led to the old node it now leads to the new one, and elsewhere to the same node as before
  pub leads_to_new : (a : ℕ → ℕ) (d : ℕ) → ((k : ℕ) → a k < 2) → links (way links (2 * room + 2) a d) ≡ old → is (way is (2 * room + 2) a d) ≡ new
  leads_to_new a d low e = (moved_link a d (way is (2 * room + 2) a d) low (moved_way a d low)).0 e

  pub leads_as_before : (a : ℕ → ℕ) (d : ℕ) → ((k : ℕ) → a k < 2) → links (way links (2 * room + 2) a d) ≢ old → is (way is (2 * room + 2) a d) ≡ links (way links (2 * room + 2) a d)
  leads_as_before a d low other = (moved_link a d (way is (2 * room + 2) a d) low (moved_way a d low)).1 other

  -- where a node that a link leads to stood before
  record Origin (i : ℕ) : Type 0 where
    from : ℕ
    same : is i ≡ links from
    other : from ≢ at
    moved : IsMoved old new from i

  origin : (i : ℕ) → 0 < is i → (i ≡ at) ⊎ Origin i
  origin i held = cases (cases_eq i at) (cases_eq i (2 * new)) (cases_eq i (2 * new + 1)) (cases_eq i (2 * old)) (cases_eq i (2 * old + 1))
    where
      cases : (i ≡ at) ⊎ (i ≡ at → ⊥) → (i ≡ 2 * new) ⊎ (i ≡ 2 * new → ⊥) → (i ≡ 2 * new + 1) ⊎ (i ≡ 2 * new + 1 → ⊥) → (i ≡ 2 * old) ⊎ (i ≡ 2 * old → ⊥) → (i ≡ 2 * old + 1) ⊎ (i ≡ 2 * old + 1 → ⊥) → (i ≡ at) ⊎ Origin i
      cases (inl e) _ _ _ _ = inl e
      cases (inr a1) (inl e) _ _ _ = inr (record {
        from = 2 * old;
        same = ap is e ∙ r.left;
        other = apart_at (2 * old) (omega arith) (omega arith);
        moved = record { stays = λ out. absurd (neither out); left = λ _. e; right = λ f. absurd (omega arith) };
      })
        where
          neither : (2 * old < 2 * old) ⊎ (2 * old + 1 < 2 * old) → ⊥
          neither (inl lt) = omega arith
          neither (inr lt) = omega arith
      cases (inr a1) (inr a2) (inl e) _ _ = inr (record {
        from = 2 * old + 1;
        same = ap is e ∙ r.right;
        other = apart_at (2 * old + 1) (omega arith) (omega arith);
        moved = record { stays = λ out. absurd (neither out); left = λ f. absurd (omega arith); right = λ _. e };
      })
        where
          neither : (2 * old + 1 < 2 * old) ⊎ (2 * old + 1 < 2 * old + 1) → ⊥
          neither (inl lt) = omega arith
          neither (inr lt) = omega arith
      cases (inr a1) (inr a2) (inr a3) (inl e) _ = absurd (omega (arith, ap is e, r.no_left))
      cases (inr a1) (inr a2) (inr a3) (inr a4) (inl e) = absurd (omega (arith, ap is e, r.no_right))
      cases (inr a1) (inr a2) (inr a3) (inr a4) (inr a5) = inr (record {
        from = i;
        same = r.others i a1 a2 a3 a4 a5;
        other = a1;
        moved = record { stays = λ _. refl; left = λ f. absurd (a4 f); right = λ f. absurd (a5 f) };
      })

  once_after : (i j : ℕ) → is i ≡ is j → 0 < is i → (i ≡ at) ⊎ Origin i → (j ≡ at) ⊎ Origin j → i ≡ j
  once_after i j e held (inl p) (inl q) = p ∙ sym q
  once_after i j e held (inl p) (inr q) = absurd (t.off some_new q.from (sym q.same ∙ sym e ∙ ap is p ∙ r.here))
  once_after i j e held (inr p) (inl q) = absurd (t.off some_new p.from (sym p.same ∙ e ∙ ap is q ∙ r.here))
  once_after i j e held (inr p) (inr q) =
      let same : p.from ≡ q.from = t.once p.from q.from (sym p.same ∙ e ∙ q.same) (subst (λ n. 0 < n) p.same held) in
      moved_alike old new q.from i j (subst (λ x. IsMoved old new x i) same p.moved) q.moved

  below_after : (i : ℕ) → (0 < is i) ⊎ (is i ≤ 0) → is i ≤ count
  below_after i (inr none) = omega arith
  below_after i (inl held) = cases (origin i held)
    where
      cases : (i ≡ at) ⊎ Origin i → is i ≤ count
      cases (inl e) = omega (arith, ap is e, r.here)
      cases (inr p) = omega (arith, p.same, t.below p.from)

  off_after : (i : ℕ) → is i ≡ old → (i ≡ at) ⊎ Origin i → ⊥
  off_after i e (inl p) = differ (sym e ∙ ap is p ∙ r.here)
  off_after i e (inr p) = p.other (t.once p.from at (sym p.same ∙ e ∙ sym here) (omega (arith, p.same)))

  -- a link that is neither here nor of the two nodes
  elsewhere : (i : ℕ) → links i ≡ 0 → (i < 2 * old) ⊎ (2 * old + 1 < i) → (i < 2 * new) ⊎ (2 * new + 1 < i) → is i ≡ 0
  elsewhere i none (inl a) (inl b) = r.others i (λ e. omega (arith, ap links e)) (omega arith) (omega arith) (omega arith) (omega arith) ∙ none
  elsewhere i none (inl a) (inr b) = r.others i (λ e. omega (arith, ap links e)) (omega arith) (omega arith) (omega arith) (omega arith) ∙ none
  elsewhere i none (inr a) (inl b) = r.others i (λ e. omega (arith, ap links e)) (omega arith) (omega arith) (omega arith) (omega arith) ∙ none
  elsewhere i none (inr a) (inr b) = r.others i (λ e. omega (arith, ap links e)) (omega arith) (omega arith) (omega arith) (omega arith) ∙ none

  bare_after : (i : ℕ) → 2 * old ≤ i → i ≤ 2 * old + 1 → (i ≡ 2 * old) ⊎ (i ≡ 2 * old → ⊥) → is i ≡ 0
  bare_after i from to (inl e) = ap is e ∙ r.no_left
  bare_after i from to (inr a) = let e : i ≡ 2 * old + 1 = omega arith in ap is e ∙ r.no_right

  placed_after : (v : ℕ) → 0 < v → v ≤ count → v ≢ old → depth ≤ long new → (v ≡ new) ⊎ (v ≡ new → ⊥) → IsPlaced is (2 * room + 2) (bits v) (long v) v
  placed_after v sv within not_old deep (inl e) =
      subst (λ n. IsPlaced is (2 * room + 2) (bits n) (long n) n) (sym e)
      (record { depth = depth; within = deep; at = leads_to_new (bits new) depth (t.low new) (ap links there ∙ here) })
  placed_after v sv within not_old deep (inr a) =
      let p = t.placed v sv within a in
      record { depth = p.depth; within = p.within; at = leads_as_before (bits v) p.depth (t.low v) (λ e. not_old (sym p.at ∙ e)) ∙ p.at }

  pub replaced : depth ≤ long new → IsLinked room count is bits long old
  replaced deep = record {
    few = t.few;
    low = t.low;
    below = λ i. below_after i (cases_lt 0 (is i));
    once = λ i j e held. once_after i j e held (origin i held) (origin j (subst (λ n. 0 < n) e held));
    nothing = λ i le. elsewhere i (t.nothing i le) (inl (omega arith)) (inl (omega arith));
    fresh = λ i from to. elsewhere i (t.fresh i from to) (inr (omega (arith, old_within))) (inr (omega arith));
    off = λ _ i e. off_after i e (origin i (omega arith));
    bare = λ i from to. bare_after i from to (cases_eq i (2 * old));
    placed = λ v sv within not_old. placed_after v sv within not_old deep (cases_eq v new);
  }
