-- Marks by their names, with the numbers of all moments, in the order of a map's entries.
use Rattle.std.proofs.Common.{◌≡◌, ℕ, ◌+◌, ◌-◌, ◌<◌, ◌≤◌, ◌||◌, not, Bool, true, false, cond, List, [], ◌∷◌, ◌++◌, filter, map as each, Option, Some, None, refl, sym, ◌∙◌, ap, subst, arith}
use Rattle.std.specs.Prelude.{nat_le, nat_lt, nat_eq}
use Rattle.std.specs.List.{AllByRecursion, IsDistinct}
use Rattle.std.specs.Cmp.Lexicographic.{pointwise, bytes_decides, nat_list_eq_equiv}
use Rattle.std.specs.Map.{lookup, keys_of, remove_entry}
use Rattle.std.proofs.lemmas.Bool.{leb-true, leb-false, ltb-true, ltb-false, le-leb, lt-leb, lt-ltb, le-ltb}
use Rattle.journal_model.specs.Marks.{Mark, moments_at, marks_from, names_below, is_among_names, without_name}
use Rattle.journal_model.specs.Well.{Each, EachPair}
use Rattle.journal_keeping.specs.MarksView.{mark_of}

abbrev pub Entries : Type 0
Entries = List (List ℕ × ℕ)

abbrev Apart : List ℕ → Entries → Type 0
Apart name es = AllByRecursion (λ other. pointwise nat_eq name other ≡ false) (keys_of es)

module _ (gone : ℕ) where
  abbrev pub standing : Entries → List Mark
  standing es = marks_from gone (each mark_of es)

  abbrev pub forgotten : Entries → List (List ℕ)
  forgotten es = names_below gone (each mark_of es)

  abbrev pub stands_at : Option ℕ → Option ℕ
  stands_at None = None
  stands_at (Some number) = cond (nat_le gone number) (Some (number - gone)) None

  abbrev pub is_below : Option ℕ → Bool
  is_below None = false
  is_below (Some number) = nat_lt number gone

  -- ---- one more entry in front
  front : (e : List ℕ × ℕ) (es : Entries) → standing (e ∷ es) ≡ cond (nat_le gone e.1) (record { name = e.0; moments = e.1 - gone } ∷ standing es) (standing es)
  front e es = by (nat_le gone e.1)
    where
      by : (b : Bool) → each (λ (m : Mark). record m { moments = m.moments - gone }) (cond b (mark_of e ∷ filter (λ (m : Mark). nat_le gone m.moments) (each mark_of es)) (filter (λ (m : Mark). nat_le gone m.moments) (each mark_of es)))
          ≡ cond b (record { name = e.0; moments = e.1 - gone } ∷ standing es) (standing es)
      by true = refl
      by false = refl

  names : (e : List ℕ × ℕ) (es : Entries) → forgotten (e ∷ es) ≡ cond (nat_lt e.1 gone) (e.0 ∷ forgotten es) (forgotten es)
  names e es = by (nat_lt e.1 gone)
    where
      by : (b : Bool) → each (λ (m : Mark). m.name) (cond b (mark_of e ∷ filter (λ (m : Mark). nat_lt m.moments gone) (each mark_of es)) (filter (λ (m : Mark). nat_lt m.moments gone) (each mark_of es)))
          ≡ cond b (e.0 ∷ forgotten es) (forgotten es)
      by true = refl
      by false = refl

  -- ---- a look-up
  none_stands : (name : List ℕ) (es : Entries) → Apart name es → moments_at name (standing es) ≡ None
  none_stands name [] h = refl
  none_stands name (e ∷ es) h = ap (moments_at name) (front e es) ∙ by (nat_le gone e.1) (none_stands name es h.1)
    where
      by : (b : Bool) → moments_at name (standing es) ≡ None → moments_at name (cond b (record { name = e.0; moments = e.1 - gone } ∷ standing es) (standing es)) ≡ None
      by true rest = ap (λ t. cond t (Some (e.1 - gone)) (moments_at name (standing es))) (nat_list_eq_equiv.symm e.0 name ∙ h.0) ∙ rest
      by false rest = rest

  pub found : (name : List ℕ) (es : Entries) → IsDistinct (pointwise nat_eq) (keys_of es) → moments_at name (standing es) ≡ stands_at (lookup (pointwise nat_eq name) es)
  unfolding IsDistinct
  found name [] d = refl
  found name (e ∷ es) d = ap (moments_at name) (front e es) ∙ by (nat_le gone e.1) (pointwise nat_eq name e.0) refl refl (found name es d.1)
    where
      by : (stands same : Bool) → nat_le gone e.1 ≡ stands → pointwise nat_eq name e.0 ≡ same → moments_at name (standing es) ≡ stands_at (lookup (pointwise nat_eq name) es)
          → moments_at name (cond stands (record { name = e.0; moments = e.1 - gone } ∷ standing es) (standing es)) ≡ stands_at (cond same (Some e.1) (lookup (pointwise nat_eq name) es))
      by true true s n rest = ap (λ t. cond t (Some (e.1 - gone)) (moments_at name (standing es))) (nat_list_eq_equiv.symm e.0 name ∙ n) ∙ sym (ap (λ t. cond t (Some (e.1 - gone)) None) s)
      by true false s n rest = ap (λ t. cond t (Some (e.1 - gone)) (moments_at name (standing es))) (nat_list_eq_equiv.symm e.0 name ∙ n) ∙ rest
      by false true s n rest =
          let its : e.0 ≡ name = sym ((bytes_decides name e.0).0 n) in
          none_stands name es (subst (λ k. Apart k es) its d.0) ∙ sym (ap (λ t. cond t (Some (e.1 - gone)) None) s)
      by false false s n rest = rest

  none_named : (name : List ℕ) (es : Entries) → Apart name es → is_among_names name (forgotten es) ≡ false
  none_named name [] h = refl
  none_named name (e ∷ es) h = ap (is_among_names name) (names e es) ∙ by (nat_lt e.1 gone) (none_named name es h.1)
    where
      by : (b : Bool) → is_among_names name (forgotten es) ≡ false → is_among_names name (cond b (e.0 ∷ forgotten es) (forgotten es)) ≡ false
      by true rest = ap (λ t. t || is_among_names name (forgotten es)) (nat_list_eq_equiv.symm e.0 name ∙ h.0) ∙ rest
      by false rest = rest

  pub lost : (name : List ℕ) (es : Entries) → IsDistinct (pointwise nat_eq) (keys_of es) → is_among_names name (forgotten es) ≡ is_below (lookup (pointwise nat_eq name) es)
  unfolding IsDistinct
  lost name [] d = refl
  lost name (e ∷ es) d = ap (is_among_names name) (names e es) ∙ by (nat_lt e.1 gone) (pointwise nat_eq name e.0) refl refl (lost name es d.1)
    where
      by : (below same : Bool) → nat_lt e.1 gone ≡ below → pointwise nat_eq name e.0 ≡ same → is_among_names name (forgotten es) ≡ is_below (lookup (pointwise nat_eq name) es)
          → is_among_names name (cond below (e.0 ∷ forgotten es) (forgotten es)) ≡ is_below (cond same (Some e.1) (lookup (pointwise nat_eq name) es))
      by true true b n rest = ap (λ t. t || is_among_names name (forgotten es)) (nat_list_eq_equiv.symm e.0 name ∙ n) ∙ sym b
      by true false b n rest = ap (λ t. t || is_among_names name (forgotten es)) (nat_list_eq_equiv.symm e.0 name ∙ n) ∙ rest
      by false true b n rest =
          let its : e.0 ≡ name = sym ((bytes_decides name e.0).0 n) in
          none_named name es (subst (λ k. Apart k es) its d.0) ∙ sym b
      by false false b n rest = rest

  -- ---- those of no greater number
  abbrev pub kept_test : ℕ → List ℕ × ℕ → Bool
  kept_test count e = nat_le (e.1 - gone) count

  pub kept_standing : (count : ℕ) (es : Entries) → standing (filter (kept_test count) es) ≡ filter (λ (m : Mark). nat_le m.moments count) (standing es)
  kept_standing count [] = refl
  kept_standing count (e ∷ es) =
      by (nat_le (e.1 - gone) count) (nat_le gone e.1) refl (kept_standing count es) (front e (filter (kept_test count) es)) ∙ ap (filter (λ (m : Mark). nat_le m.moments count)) (sym (front e es))
    where
      x : Mark
      x = record { name = e.0; moments = e.1 - gone }

      left : Entries
      left = filter (kept_test count) es

      by : (kept stands : Bool) → nat_le (e.1 - gone) count ≡ kept → standing left ≡ filter (λ (m : Mark). nat_le m.moments count) (standing es) → standing (e ∷ left) ≡ cond stands (x ∷ standing left) (standing left)
          → standing (cond kept (e ∷ left) left) ≡ filter (λ (m : Mark). nat_le m.moments count) (cond stands (x ∷ standing es) (standing es))
      by true true k rest f = f ∙ ap (λ ms. x ∷ ms) rest ∙ sym (ap (λ t. cond t (x ∷ filter (λ (m : Mark). nat_le m.moments count) (standing es)) (filter (λ (m : Mark). nat_le m.moments count) (standing es))) k)
      by true false k rest f = f ∙ rest
      by false true k rest f = rest ∙ sym (ap (λ t. cond t (x ∷ filter (λ (m : Mark). nat_le m.moments count) (standing es)) (filter (λ (m : Mark). nat_le m.moments count) (standing es))) k)
      by false false k rest f = rest

  pub kept_forgotten : (count : ℕ) (es : Entries) → forgotten (filter (kept_test count) es) ≡ forgotten es
  kept_forgotten count [] = refl
  kept_forgotten count (e ∷ es) = by (nat_le (e.1 - gone) count) (nat_lt e.1 gone) refl refl (kept_forgotten count es) (names e (filter (kept_test count) es)) ∙ sym (names e es)
    where
      left : Entries
      left = filter (kept_test count) es

      by : (kept below : Bool) → nat_le (e.1 - gone) count ≡ kept → nat_lt e.1 gone ≡ below → forgotten left ≡ forgotten es → forgotten (e ∷ left) ≡ cond below (e.0 ∷ forgotten left) (forgotten left)
          → forgotten (cond kept (e ∷ left) left) ≡ cond below (e.0 ∷ forgotten es) (forgotten es)
      by true true k b rest f = f ∙ ap (λ ns. e.0 ∷ ns) rest
      by true false k b rest f = f ∙ rest
      by false true k b rest f = let more : count < e.1 - gone = leb-false (e.1 - gone) count k in let less : e.1 < gone = ltb-true e.1 gone b in absurd (omega (arith, more, less))
      by false false k b rest f = rest

  -- ---- a new base
  pub from_front : (count : ℕ) (x : Mark) (ms : List Mark) → marks_from count (x ∷ ms) ≡ cond (nat_le count x.moments) (record { name = x.name; moments = x.moments - count } ∷ marks_from count ms) (marks_from count ms)
  from_front count x ms = by (nat_le count x.moments)
    where
      by : (b : Bool) → each (λ (m : Mark). record m { moments = m.moments - count }) (cond b (x ∷ filter (λ (m : Mark). nat_le count m.moments) ms) (filter (λ (m : Mark). nat_le count m.moments) ms))
          ≡ cond b (record { name = x.name; moments = x.moments - count } ∷ marks_from count ms) (marks_from count ms)
      by true = refl
      by false = refl

  pub below_front : (count : ℕ) (x : Mark) (ms : List Mark) → names_below count (x ∷ ms) ≡ cond (nat_lt x.moments count) (x.name ∷ names_below count ms) (names_below count ms)
  below_front count x ms = by (nat_lt x.moments count)
    where
      by : (b : Bool) → each (λ (m : Mark). m.name) (cond b (x ∷ filter (λ (m : Mark). nat_lt m.moments count) ms) (filter (λ (m : Mark). nat_lt m.moments count) ms)) ≡ cond b (x.name ∷ names_below count ms) (names_below count ms)
      by true = refl
      by false = refl

-- the marks that stand count from a later base on
pub later_standing : (gone count : ℕ) (es : Entries) → standing (gone + count) es ≡ marks_from count (standing gone es)
later_standing gone count [] = refl
later_standing gone count (e ∷ es) = front (gone + count) e es ∙ by (nat_le (gone + count) e.1) (nat_le gone e.1) refl refl (later_standing gone count es) ∙ ap (marks_from count) (sym (front gone e es))
  where
    x : Mark
    x = record { name = e.0; moments = e.1 - gone }

    y : Mark
    y = record { name = e.0; moments = e.1 - (gone + count) }

    by : (far stands : Bool) → nat_le (gone + count) e.1 ≡ far → nat_le gone e.1 ≡ stands → standing (gone + count) es ≡ marks_from count (standing gone es)
        → cond far (y ∷ standing (gone + count) es) (standing (gone + count) es) ≡ marks_from count (cond stands (x ∷ standing gone es) (standing gone es))
    by true true f s rest =
        let enough : gone + count ≤ e.1 = leb-true (gone + count) e.1 f in
        let same : e.1 - (gone + count) ≡ (e.1 - gone) - count = omega (arith, enough) in
        ap (λ ms. y ∷ ms) rest ∙ ap (λ n. record { name = e.0; moments = n } ∷ marks_from count (standing gone es)) same
        ∙ sym (from_front gone count x (standing gone es) ∙ ap (λ t. cond t (record { name = e.0; moments = (e.1 - gone) - count } ∷ marks_from count (standing gone es)) (marks_from count (standing gone es))) (le-leb count (e.1 - gone) (omega (arith, enough))))
    by true false f s rest = let enough : gone + count ≤ e.1 = leb-true (gone + count) e.1 f in let less : e.1 < gone = leb-false gone e.1 s in absurd (omega (arith, enough, less))
    by false true f s rest =
        let less : e.1 < gone + count = leb-false (gone + count) e.1 f in
        let enough : gone ≤ e.1 = leb-true gone e.1 s in
        rest ∙ sym (from_front gone count x (standing gone es) ∙ ap (λ t. cond t (record { name = e.0; moments = (e.1 - gone) - count } ∷ marks_from count (standing gone es)) (marks_from count (standing gone es))) (lt-leb count (e.1 - gone) (omega (arith, less, enough))))
    by false false f s rest = rest

-- ---- what is counted from there on
abbrev pub count_test : ℕ → ℕ → List ℕ × ℕ → Bool
count_test gone next e = nat_lt e.1 gone || nat_le next e.1

counted_front : (gone count : ℕ) (es : Entries) → standing (gone + count) (filter (count_test gone (gone + count)) es) ≡ standing (gone + count) es
counted_front gone count [] = refl
counted_front gone count (e ∷ es) =
    by (nat_lt e.1 gone) (nat_le (gone + count) e.1) refl (counted_front gone count es) (front (gone + count) e (filter (count_test gone (gone + count)) es)) ∙ sym (front (gone + count) e es)
  where
    y : Mark
    y = record { name = e.0; moments = e.1 - (gone + count) }

    left : Entries
    left = filter (count_test gone (gone + count)) es

    S : Entries → List Mark
    S = standing (gone + count)

    by : (below far : Bool) → nat_le (gone + count) e.1 ≡ far → S left ≡ S es → S (e ∷ left) ≡ cond (nat_le (gone + count) e.1) (y ∷ S left) (S left) → S (cond (below || far) (e ∷ left) left) ≡ cond far (y ∷ S es) (S es)
    by true far f rest g = g ∙ ap (λ t. cond t (y ∷ S left) (S left)) f ∙ ap (λ ms. cond far (y ∷ ms) ms) rest
    by false true f rest g = g ∙ ap (λ t. cond t (y ∷ S left) (S left)) f ∙ ap (λ ms. y ∷ ms) rest
    by false false f rest g = rest

pub counted_standing : (gone count : ℕ) (es : Entries) → standing (gone + count) (filter (count_test gone (gone + count)) es) ≡ marks_from count (standing gone es)
counted_standing gone count es = counted_front gone count es ∙ later_standing gone count es

pub counted_forgotten : (gone count : ℕ) (es : Entries) → forgotten (gone + count) (filter (count_test gone (gone + count)) es) ≡ forgotten gone es
counted_forgotten gone count [] = refl
counted_forgotten gone count (e ∷ es) =
    by (nat_lt e.1 gone) (nat_le (gone + count) e.1) refl refl (counted_forgotten gone count es) (names (gone + count) e (filter (count_test gone (gone + count)) es)) ∙ sym (names gone e es)
  where
    left : Entries
    left = filter (count_test gone (gone + count)) es

    F : Entries → List (List ℕ)
    F = forgotten (gone + count)

    by : (below far : Bool) → nat_lt e.1 gone ≡ below → nat_le (gone + count) e.1 ≡ far → F left ≡ forgotten gone es → F (e ∷ left) ≡ cond (nat_lt e.1 (gone + count)) (e.0 ∷ F left) (F left)
        → F (cond (below || far) (e ∷ left) left) ≡ cond below (e.0 ∷ forgotten gone es) (forgotten gone es)
    by true far b f rest g =
        let less : e.1 < gone = ltb-true e.1 gone b in
        g ∙ ap (λ t. cond t (e.0 ∷ F left) (F left)) (lt-ltb e.1 (gone + count) (omega (arith, less))) ∙ ap (λ ns. e.0 ∷ ns) rest
    by false true b f rest g =
        let enough : gone + count ≤ e.1 = leb-true (gone + count) e.1 f in
        g ∙ ap (λ t. cond t (e.0 ∷ F left) (F left)) (le-ltb e.1 (gone + count) enough) ∙ rest
    by false false b f rest g = rest

-- ---- one moment more is gone
abbrev pub Ascends : Entries → Type 0
Ascends es = EachPair (λ (earlier later : List ℕ × ℕ). earlier.1 ≤ later.1) es

none_below : (gone n : ℕ) (es : Entries) → gone ≤ n → Each (λ (later : List ℕ × ℕ). n ≤ later.1) es → forgotten gone es ≡ []
none_below gone n [] low h = refl
none_below gone n (e ∷ es) low h = names gone e es ∙ ap (λ t. cond t (e.0 ∷ forgotten gone es) (forgotten gone es)) (le-ltb e.1 gone (omega (arith, low, h.0))) ∙ none_below gone n es low h.1

pub folded_forgotten : (gone : ℕ) (es : Entries) → Ascends es → forgotten (gone + 1) es ≡ forgotten gone es ++ names_below 1 (standing gone es)
folded_forgotten gone [] a = refl
folded_forgotten gone (e ∷ es) a =
    names (gone + 1) e es ∙ by (nat_lt e.1 gone) refl (folded_forgotten gone es a.1)
    ∙ (λ i. sym (names gone e es) i ++ names_below 1 (sym (front gone e es) i))
  where
    x : Mark
    x = record { name = e.0; moments = e.1 - gone }

    F : List (List ℕ)
    F = forgotten (gone + 1) es

    S : List Mark
    S = standing gone es

    by : (below : Bool) → nat_lt e.1 gone ≡ below → F ≡ forgotten gone es ++ names_below 1 S
        → cond (nat_lt e.1 (gone + 1)) (e.0 ∷ F) F ≡ cond below (e.0 ∷ forgotten gone es) (forgotten gone es) ++ names_below 1 (cond (nat_le gone e.1) (x ∷ S) S)
    by true b rest =
        let less : e.1 < gone = ltb-true e.1 gone b in
        ap (λ t. cond t (e.0 ∷ F) F) (lt-ltb e.1 (gone + 1) (omega (arith, less))) ∙ ap (λ ns. e.0 ∷ ns) rest
        ∙ ap (λ t. (e.0 ∷ forgotten gone es) ++ names_below 1 (cond t (x ∷ S) S)) (sym (lt-leb gone e.1 less))
    by false b rest =
        let enough : gone ≤ e.1 = ltb-false e.1 gone b in
        let none : forgotten gone es ≡ [] = none_below gone e.1 es enough a.0 in
        let all : F ≡ names_below 1 S = rest ∙ ap (λ ns. ns ++ names_below 1 S) none in
        here (nat_lt e.1 (gone + 1)) refl all
        ∙ ap (λ ns. ns ++ names_below 1 (x ∷ S)) (sym none)
        ∙ ap (λ t. forgotten gone es ++ names_below 1 (cond t (x ∷ S) S)) (sym (le-leb gone e.1 enough))
      where
        here : (first : Bool) → nat_lt e.1 (gone + 1) ≡ first → F ≡ names_below 1 S → cond first (e.0 ∷ F) F ≡ names_below 1 (x ∷ S)
        here true f all =
            let low : e.1 < gone + 1 = ltb-true e.1 (gone + 1) f in
            ap (λ ns. e.0 ∷ ns) all ∙ sym (below_front gone 1 x S ∙ ap (λ t. cond t (e.0 ∷ names_below 1 S) (names_below 1 S)) (lt-ltb (e.1 - gone) 1 (omega (arith, low))))
        here false f all =
            let high : gone + 1 ≤ e.1 = ltb-false e.1 (gone + 1) f in
            all ∙ sym (below_front gone 1 x S ∙ ap (λ t. cond t (e.0 ∷ names_below 1 S) (names_below 1 S)) (le-ltb (e.1 - gone) 1 (omega (arith, high))))

-- ---- a mark that is made
apart_none : (name : List ℕ) (es : Entries) → Apart name es → lookup (pointwise nat_eq name) es ≡ None
apart_none name [] h = refl
apart_none name (e ∷ es) h = ap (λ t. cond t (Some e.1) (lookup (pointwise nat_eq name) es)) h.0 ∙ apart_none name es h.1

apart_names : (gone : ℕ) (name : List ℕ) (es : Entries) → Apart name es → without_name name (forgotten gone es) ≡ forgotten gone es
apart_names gone name [] h = refl
apart_names gone name (e ∷ es) h = ap (without_name name) (names gone e es) ∙ by (nat_lt e.1 gone) (apart_names gone name es h.1) ∙ sym (names gone e es)
  where
    by : (b : Bool) → without_name name (forgotten gone es) ≡ forgotten gone es → without_name name (cond b (e.0 ∷ forgotten gone es) (forgotten gone es)) ≡ cond b (e.0 ∷ forgotten gone es) (forgotten gone es)
    by true rest = ap (λ t. cond (not t) (e.0 ∷ without_name name (forgotten gone es)) (without_name name (forgotten gone es))) (nat_list_eq_equiv.symm e.0 name ∙ h.0) ∙ ap (λ ns. e.0 ∷ ns) rest
    by false rest = rest

module _ (name : List ℕ) where
  abbrev pub others : Entries → Entries
  others es = remove_entry (pointwise nat_eq name) es

  pub removed_none : (es : Entries) → IsDistinct (pointwise nat_eq) (keys_of es) → lookup (pointwise nat_eq name) (others es) ≡ None
  unfolding IsDistinct
  removed_none [] d = refl
  removed_none (e ∷ es) d = by (pointwise nat_eq name e.0) refl (removed_none es d.1)
    where
      by : (same : Bool) → pointwise nat_eq name e.0 ≡ same → lookup (pointwise nat_eq name) (others es) ≡ None → lookup (pointwise nat_eq name) (cond same es (e ∷ others es)) ≡ None
      by true n rest = apart_none name es (subst (λ k. Apart k es) (sym ((bytes_decides name e.0).0 n)) d.0)
      by false n rest = ap (λ t. cond t (Some e.1) (lookup (pointwise nat_eq name) (others es))) n ∙ rest

  pub removed_standing : (gone : ℕ) (es : Entries) → stands_at gone (lookup (pointwise nat_eq name) es) ≡ None → standing gone (others es) ≡ standing gone es
  removed_standing gone [] none = refl
  removed_standing gone (e ∷ es) none = by (pointwise nat_eq name e.0) none (removed_standing gone es) ∙ sym (front gone e es)
    where
      x : Mark
      x = record { name = e.0; moments = e.1 - gone }

      not_there : (b : Bool) → cond b (Some (e.1 - gone)) None ≡ None → b ≡ false
      not_there true n = cc
      not_there false n = refl

      by : (same : Bool) → stands_at gone (cond same (Some e.1) (lookup (pointwise nat_eq name) es)) ≡ None → (stands_at gone (lookup (pointwise nat_eq name) es) ≡ None → standing gone (others es) ≡ standing gone es)
          → standing gone (cond same es (e ∷ others es)) ≡ cond (nat_le gone e.1) (x ∷ standing gone es) (standing gone es)
      by true none rest = sym (ap (λ t. cond t (x ∷ standing gone es) (standing gone es)) (not_there (nat_le gone e.1) none))
      by false none rest = front gone e (others es) ∙ ap (λ ms. cond (nat_le gone e.1) (x ∷ ms) ms) (rest none)

  pub removed_forgotten : (gone : ℕ) (es : Entries) → IsDistinct (pointwise nat_eq) (keys_of es) → forgotten gone (others es) ≡ without_name name (forgotten gone es)
  unfolding IsDistinct
  removed_forgotten gone [] d = refl
  removed_forgotten gone (e ∷ es) d = by (pointwise nat_eq name e.0) (nat_lt e.1 gone) refl (removed_forgotten gone es d.1) ∙ ap (without_name name) (sym (names gone e es))
    where
      F : List (List ℕ)
      F = forgotten gone es

      by : (same below : Bool) → pointwise nat_eq name e.0 ≡ same → forgotten gone (others es) ≡ without_name name F → forgotten gone (cond same es (e ∷ others es)) ≡ without_name name (cond (nat_lt e.1 gone) (e.0 ∷ F) F)
      by same below n rest = cases same (nat_lt e.1 gone) n refl rest
        where
          cases : (same below : Bool) → pointwise nat_eq name e.0 ≡ same → nat_lt e.1 gone ≡ below → forgotten gone (others es) ≡ without_name name F → forgotten gone (cond same es (e ∷ others es)) ≡ without_name name (cond below (e.0 ∷ F) F)
          cases true true n b rest =
              let apart : Apart name es = subst (λ k. Apart k es) (sym ((bytes_decides name e.0).0 n)) d.0 in
              sym (ap (λ t. cond (not t) (e.0 ∷ without_name name F) (without_name name F)) (nat_list_eq_equiv.symm e.0 name ∙ n) ∙ apart_names gone name es apart)
          cases true false n b rest = sym (apart_names gone name es (subst (λ k. Apart k es) (sym ((bytes_decides name e.0).0 n)) d.0))
          cases false true n b rest =
              names gone e (others es) ∙ ap (λ t. cond t (e.0 ∷ forgotten gone (others es)) (forgotten gone (others es))) b ∙ ap (λ ns. e.0 ∷ ns) rest
              ∙ sym (ap (λ t. cond (not t) (e.0 ∷ without_name name F) (without_name name F)) (nat_list_eq_equiv.symm e.0 name ∙ n))
          cases false false n b rest = names gone e (others es) ∙ ap (λ t. cond t (e.0 ∷ forgotten gone (others es)) (forgotten gone (others es))) b ∙ rest

  others_Each : (P : List ℕ × ℕ → Type 0) (es : Entries) → Each P es → Each P (others es)
  others_Each P [] h = tt
  others_Each P (e ∷ es) h = by (pointwise nat_eq name e.0) (others_Each P es h.1)
    where
      by : (same : Bool) → Each P (others es) → Each P (cond same es (e ∷ others es))
      by true rest = h.1
      by false rest = (h.0, rest)

  pub others_ascend : (es : Entries) → Ascends es → Ascends (others es)
  others_ascend [] a = tt
  others_ascend (e ∷ es) a = by (pointwise nat_eq name e.0) (others_ascend es a.1)
    where
      by : (same : Bool) → Ascends (others es) → Ascends (cond same es (e ∷ others es))
      by true rest = a.1
      by false rest = (others_Each (λ (later : List ℕ × ℕ). e.1 ≤ later.1) es a.0, rest)

  pub others_below : (last : ℕ) (es : Entries) → Each (λ (e : List ℕ × ℕ). e.1 ≤ last) es → Each (λ (e : List ℕ × ℕ). e.1 ≤ last) (others es)
  others_below last es h = others_Each (λ (e : List ℕ × ℕ). e.1 ≤ last) es h

pub all_below : (gone moments : ℕ) (es : Entries) → Each (λ (m : Mark). m.moments ≤ moments) (standing gone es) → Each (λ (e : List ℕ × ℕ). e.1 ≤ gone + moments) es
all_below gone moments [] h = tt
all_below gone moments (e ∷ es) h = by (nat_le gone e.1) refl (subst (Each (λ (m : Mark). m.moments ≤ moments)) (front gone e es) h) (all_below gone moments es)
  where
    by : (stands : Bool) → nat_le gone e.1 ≡ stands → Each (λ (m : Mark). m.moments ≤ moments) (cond stands (record { name = e.0; moments = e.1 - gone } ∷ standing gone es) (standing gone es))
        → (Each (λ (m : Mark). m.moments ≤ moments) (standing gone es) → Each (λ (e : List ℕ × ℕ). e.1 ≤ gone + moments) es) → Each (λ (e : List ℕ × ℕ). e.1 ≤ gone + moments) (e ∷ es)
    by true s h rest = let low : e.1 - gone ≤ moments = h.0 in (omega (arith, low), rest h.1)
    by false s h rest = let less : e.1 < gone = leb-false gone e.1 s in (omega (arith, less), rest h)

-- after the others
pub added_standing : (gone : ℕ) (es : Entries) (name : List ℕ) (moments : ℕ) → standing gone (es ++ (name, gone + moments) ∷ []) ≡ standing gone es ++ record { name = name; moments = moments } ∷ []
added_standing gone [] name moments =
    let same : (gone + moments) - gone ≡ moments = omega arith in
    front gone (name, gone + moments) [] ∙ ap (λ t. cond t (record { name = name; moments = (gone + moments) - gone } ∷ []) []) (le-leb gone (gone + moments) (omega arith)) ∙ ap (λ n. record { name = name; moments = n } ∷ []) same
added_standing gone (e ∷ es) name moments = front gone e (es ++ (name, gone + moments) ∷ []) ∙ by (nat_le gone e.1) (added_standing gone es name moments) ∙ ap (λ ms. ms ++ record { name = name; moments = moments } ∷ []) (sym (front gone e es))
  where
    x : Mark
    x = record { name = e.0; moments = e.1 - gone }

    new : List Mark
    new = record { name = name; moments = moments } ∷ []

    by : (stands : Bool) → standing gone (es ++ (name, gone + moments) ∷ []) ≡ standing gone es ++ new
        → cond stands (x ∷ standing gone (es ++ (name, gone + moments) ∷ [])) (standing gone (es ++ (name, gone + moments) ∷ [])) ≡ cond stands (x ∷ standing gone es) (standing gone es) ++ new
    by true rest = ap (λ ms. x ∷ ms) rest
    by false rest = rest

pub added_forgotten : (gone : ℕ) (es : Entries) (name : List ℕ) (moments : ℕ) → forgotten gone (es ++ (name, gone + moments) ∷ []) ≡ forgotten gone es
added_forgotten gone [] name moments = names gone (name, gone + moments) [] ∙ ap (λ t. cond t (name ∷ []) []) (le-ltb (gone + moments) gone (omega arith))
added_forgotten gone (e ∷ es) name moments =
    names gone e (es ++ (name, gone + moments) ∷ []) ∙ ap (λ ns. cond (nat_lt e.1 gone) (e.0 ∷ ns) ns) (added_forgotten gone es name moments) ∙ sym (names gone e es)
