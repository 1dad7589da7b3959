-- Histories: where their beginnings lead, and whose calls stand in them.
use Rattle.std.proofs.Common.{◌≡◌, ℕ, ◌+◌, ◌≤◌, ◌||◌, Bool, true, false, cond, ltb, List, [], ◌∷◌, ◌++◌, length, refl, ap, sym, ◌∙◌, subst, arith}
use Rattle.std.proofs.lemmas.List.{append-nil}
use Rattle.std.proofs.lemmas.List.Elements.{filter-append}
use Rattle.std.proofs.lemmas.Bool.Decides.{nat_tests}
use mathlib.Core.List.{IsPrefix}
use Rattle.thread_lock.specs.declared.entry.Entry.{Entry}
use Rattle.thread_lock.specs.History.{Leads, IsLegal, AreApart, has, own, longer}
use Rattle.thread_lock.proofs.Numbers.{has-append}
use Rattle.thread_lock.proofs.Prefixes.{front_nil, rest_nil, prefix_whole, shorter}

module _ {E A : Type 0} where
  pub own-append : (ns : List ℕ) (xs ys : List (Entry E A)) → own ns (xs ++ ys) ≡ own ns xs ++ own ns ys
  own-append ns xs ys = filter-append (λ e. has ns e.by) xs ys

  pub own_rest : (ns : List ℕ) (xs ys : List (Entry E A)) → own ns (xs ++ ys) ≡ [] → own ns ys ≡ []
  own_rest ns xs ys e = rest_nil (own ns xs) (own ns ys) (sym (own-append ns xs ys) ∙ e)

  pub own_front : (ns : List ℕ) (xs ys : List (Entry E A)) → own ns (xs ++ ys) ≡ [] → own ns xs ≡ []
  own_front ns xs ys e = front_nil (own ns xs) (own ns ys) (sym (own-append ns xs ys) ∙ e)

  pub own_none : (ns : List ℕ) (xs ys : List (Entry E A)) → own ns xs ≡ [] → own ns ys ≡ [] → own ns (xs ++ ys) ≡ []
  own_none ns xs ys p q = own-append ns xs ys ∙ (ap (λ (w : List (Entry E A)). w ++ own ns ys) p ∙ q)

  pub own_nobody : (xs : List (Entry E A)) → own [] xs ≡ []
  own_nobody [] = refl
  own_nobody (e ∷ xs) = own_nobody xs

  pub own_not : (ns : List ℕ) (e : Entry E A) → has ns e.by ≡ false → own ns (e ∷ []) ≡ []
  own_not ns e h = ap (λ (b : Bool). cond b (e ∷ []) []) h

  -- with no call of these seats after it, a history has the same calls of theirs
  pub own_same : (ns : List ℕ) (xs more log : List (Entry E A)) → xs ++ more ≡ log → own ns more ≡ [] → own ns log ≡ own ns xs
  own_same ns xs more log p q = ap (own ns) (sym p) ∙ (own-append ns xs more ∙ (ap (λ (l : List (Entry E A)). own ns xs ++ l) q ∙ append-nil (own ns xs)))

  -- and with one call after those of others, it has this one more
  pub own_more : (ns : List ℕ) (xs between ys : List (Entry E A)) (e : Entry E A) → has ns e.by ≡ true → own ns between ≡ [] → ys ≡ (xs ++ between) ++ e ∷ [] → own ns ys ≡ own ns xs ++ e ∷ []
  own_more ns xs between ys e mine others is =
      ap (own ns) is
      ∙ (own-append ns (xs ++ between) (e ∷ [])
      ∙ (ap (λ (b : Bool). own ns (xs ++ between) ++ cond b (e ∷ []) []) mine ∙ ap (λ (l : List (Entry E A)). l ++ e ∷ []) (own_same ns xs between (xs ++ between) refl others)))

  -- what neither of two rows of numbers has called, both together have not
  pub own_both : (ns ms : List ℕ) (xs : List (Entry E A)) → own ns xs ≡ [] → own ms xs ≡ [] → own (ns ++ ms) xs ≡ []
  own_both ns ms [] p q = refl
  own_both ns ms (e ∷ xs) p q =
      let a = none_cons (has ns e.by) e (own ns xs) p in
      let b = none_cons (has ms e.by) e (own ms xs) q in
      ap (λ (z : Bool). cond z (e ∷ own (ns ++ ms) xs) (own (ns ++ ms) xs)) (has-append ns ms e.by ∙ neither (has ns e.by) (has ms e.by) a.0 b.0) ∙ own_both ns ms xs a.1 b.1
    where
      none_cons : (b : Bool) (e : Entry E A) (t : List (Entry E A)) → cond b (e ∷ t) t ≡ [] → (b ≡ false) × (t ≡ [])
      none_cons true e t h = absurd (cc)
      none_cons false e t h = (refl, h)

      neither : (a b : Bool) → a ≡ false → b ≡ false → a || b ≡ false
      neither a b p q = cc

  -- and what both together have not, neither has
  pub own_each : (ns ms : List ℕ) (xs : List (Entry E A)) → own (ns ++ ms) xs ≡ [] → (own ns xs ≡ []) × (own ms xs ≡ [])
  own_each ns ms [] p = (refl, refl)
  own_each ns ms (e ∷ xs) p =
      let h = by (has ns e.by) (has ms e.by) (own (ns ++ ms) xs) (ap (λ (b : Bool). cond b (e ∷ own (ns ++ ms) xs) (own (ns ++ ms) xs)) (sym (has-append ns ms e.by)) ∙ p) in
      let r = own_each ns ms xs h.2 in
      (ap (λ (b : Bool). cond b (e ∷ own ns xs) (own ns xs)) h.0 ∙ r.0, ap (λ (b : Bool). cond b (e ∷ own ms xs) (own ms xs)) h.1 ∙ r.1)
    where
      by : (a b : Bool) (t : List (Entry E A)) → cond (a || b) (e ∷ t) t ≡ [] → (a ≡ false) × (b ≡ false) × (t ≡ [])
      by true b t h = absurd (cc)
      by false true t h = absurd (cc)
      by false false t h = (refl, refl, h)

  -- ---- how many calls are whose
  -- two rows of numbers with none in common have called as often as both together
  pub length-own-append : (ns ms : List ℕ) (xs : List (Entry E A)) → AreApart ns ms → length (own (ns ++ ms) xs) ≡ length (own ns xs) + length (own ms xs)
  length-own-append ns ms [] apart = refl
  length-own-append ns ms (e ∷ xs) apart =
      ap (λ (b : Bool). length (cond b (e ∷ own (ns ++ ms) xs) (own (ns ++ ms) xs))) (has-append ns ms e.by)
      ∙ by (has ns e.by) (has ms e.by) (own (ns ++ ms) xs) (own ns xs) (own ms xs) (apart e.by) (length-own-append ns ms xs apart)
    where
      by : (a b : Bool) (t u w : List (Entry E A)) → (a ≡ true → b ≡ false) → length t ≡ length u + length w → length (cond (a || b) (e ∷ t) t) ≡ length (cond a (e ∷ u) u) + length (cond b (e ∷ w) w)
      by true true t u w not_both h = absurd (let z : true ≡ false = not_both refl in cc)
      by true false t u w not_both h = omega arith
      by false true t u w not_both h = omega arith
      by false false t u w not_both h = h

  length-own : (ns : List ℕ) (xs : List (Entry E A)) → length (own ns xs) ≤ length xs
  length-own ns [] = omega arith
  length-own ns (e ∷ xs) = by (has ns e.by) (own ns xs) (length-own ns xs)
    where
      by : (b : Bool) (t : List (Entry E A)) → length t ≤ length xs → length (cond b (e ∷ t) t) ≤ length (e ∷ xs)
      by true t le = omega arith
      by false t le = omega arith

  -- if seats have called as often as all, no other has called
  pub own_all : (ns : List ℕ) (xs : List (Entry E A)) → length xs ≤ length (own ns xs) → own ns xs ≡ xs
  own_all ns [] le = refl
  own_all ns (e ∷ xs) le = by (has ns e.by) (own ns xs) (length-own ns xs) (own_all ns xs) le
    where
      by : (b : Bool) (t : List (Entry E A)) → length t ≤ length xs → (length xs ≤ length t → t ≡ xs) → length (e ∷ xs) ≤ length (cond b (e ∷ t) t) → cond b (e ∷ t) t ≡ e ∷ xs
      by true t short rest le = ap (λ (l : List (Entry E A)). e ∷ l) (rest (omega arith))
      by false t short rest le = absurd (omega arith)

  -- ---- the longer of two beginnings of one history
  pub record Longer (xs ys log r : List (Entry E A)) : Type 0 where
    pub more : List (Entry E A)
    pub tail : List (Entry E A)
    pub first : xs ++ more ≡ longer xs ys
    pub second : IsPrefix ys (longer xs ys)
    pub whole : longer xs ys ++ tail ≡ log
    pub rest : r ≡ more ++ tail

  pub longer_of : (xs ys log r t : List (Entry E A)) → xs ++ r ≡ log → ys ++ t ≡ log → Longer xs ys log r
  longer_of xs ys log r t p q = by_test (ltb (length xs) (length ys)) refl
    where
      by_test : (b : Bool) → ltb (length xs) (length ys) ≡ b → Longer xs ys log r
      by_test true h =
          let s = shorter xs ys r t (p ∙ sym q) (grind (arith, nat_tests)) in
          let is : longer xs ys ≡ ys = ap (λ (z : Bool). cond z ys xs) h in record {
            more = s.0;
            tail = t;
            first = s.1 ∙ sym is;
            second = ([], append-nil ys ∙ sym is);
            whole = ap (λ (w : List (Entry E A)). w ++ t) is ∙ q;
            rest = s.2;
          }
      by_test false h =
          let s = shorter ys xs t r (q ∙ sym p) (grind (arith, nat_tests)) in
          let is : longer xs ys ≡ xs = ap (λ (z : Bool). cond z ys xs) h in record {
            more = [];
            tail = r;
            first = append-nil xs ∙ sym is;
            second = (s.0, s.1 ∙ sym is);
            whole = ap (λ (w : List (Entry E A)). w ++ r) is ∙ p;
            rest = refl;
          }

  -- what begins a history is not longer than it
  pub longer_whole : (xs log : List (Entry E A)) → IsPrefix xs log → longer xs log ≡ log
  longer_whole xs log p = by_test (ltb (length xs) (length log)) refl
    where
      by_test : (b : Bool) → ltb (length xs) (length log) ≡ b → longer xs log ≡ log
      by_test true h = ap (λ (z : Bool). cond z log xs) h
      by_test false h = ap (λ (z : Bool). cond z log xs) h ∙ prefix_whole xs log p (grind (arith, nat_tests))

module _ {S E A : Type 0} (steps : S → E → A → S → Type 0) where
  pub leads_on : (a b c : S) (xs ys : List (Entry E A)) → Leads steps a xs b → Leads steps b ys c → Leads steps a (xs ++ ys) c
  leads_on a b c [] ys p q = subst (λ (z : S). Leads steps z ys c) (sym p) q
  leads_on a b c (e ∷ xs) ys p q = (p.0, p.1, leads_on p.0 b c xs ys p.2 q)

  -- each beginning of a legal history is legal
  pub legal_front : (a c : S) (xs ys : List (Entry E A)) → Leads steps a (xs ++ ys) c → IsLegal steps a xs
  legal_front a c [] ys p = (a, refl)
  legal_front a c (e ∷ xs) ys p = let r = legal_front p.0 c xs ys p.2 in (r.0, (p.0, p.1, r.1))
