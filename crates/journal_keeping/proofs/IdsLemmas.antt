-- Lists of ascending ids: what is among those up to one of them with one more; and the last ids of moments.
use Rattle.std.proofs.Common.{◌≡◌, ◌⊎◌, inl, inr, ℕ, ◌≤◌, ◌==◌, ◌||◌, ◌&&◌, Bool, true, false, cond, List, [], ◌∷◌, ◌++◌, filter, reverse, take, drop, Option, Some, None, refl, sym, ◌∙◌, ap, subst, arith, eq-eqb}
use Rattle.std.specs.Prelude.{nat_le, option_to_list}
use Rattle.std.proofs.lemmas.List.{append-nil, append_assoc, reverse-append, take-append-drop}
use Rattle.std.proofs.lemmas.List.Folds.{list_any-append}
use Rattle.std.proofs.lemmas.Map.Views.{any-filter_same}
use Rattle.std.proofs.lemmas.Bool.{le-leb, leb-true}
use Rattle.std.proofs.lemmas.Bool.Decides.{nat_tests}
use Rattle.bt_objects.specs.Ids.{is_among}
use Rattle.journal_model.specs.Well.{Each}
use Rattle.journal_model.proofs.Lists.{Each-map, EachPair-push}
use Rattle.journal_timeline.specs.Listed.{Rises}
use Rattle.journal_timeline.proofs.AscendLemmas.{Rises-some}
use Rattle.journal_keeping.specs.Boxes.{lasts_of, newest, IsUpTo, AreBelow}
use Rattle.journal_keeping.specs.declared.ids.LastIds.{LastIds}

-- ---- ids among others
and_parts : (a b : Bool) → (a && b) ≡ true → (a ≡ true) × (b ≡ true)
and_parts true b e = (refl, e)
and_parts false b e = cc

and_both : (a b : Bool) → a ≡ true → b ≡ true → (a && b) ≡ true
and_both true b e f = f
and_both false b e f = cc

or_parts : (a b : Bool) → (a || b) ≡ true → (a ≡ true) ⊎ (b ≡ true)
or_parts true b e = inl refl
or_parts false b e = inr e

or_first : (a b : Bool) → a ≡ true → (a || b) ≡ true
or_first true b e = refl
or_first false b e = cc

or_second : (a b : Bool) → b ≡ true → (a || b) ≡ true
or_second true b e = refl
or_second false b e = e

among-push : (ids : List ℕ) (id q : ℕ) → is_among (ids ++ id ∷ []) q ≡ (is_among ids q || (id == q))
among-push ids id q = list_any-append (λ other. other == q) ids (id ∷ []) ∙ ap (λ b. is_among ids q || b) (only (id == q))
  where
    only : (b : Bool) → (b || false) ≡ b
    only true = refl
    only false = refl

-- the ids up to this one
abbrev pub up_to : ℕ → List ℕ → List ℕ
up_to top ids = filter (λ id. nat_le id top) ids

among-up_to : (top : ℕ) (ids : List ℕ) (q : ℕ) → is_among (up_to top ids) q ≡ (nat_le q top && is_among ids q)
among-up_to top ids q = any-filter_same (λ other. other == q) (λ id. nat_le id top) (nat_le q top) (λ k same. ap (λ id. nat_le id top) (grind (arith, nat_tests, same))) ids

each_among : (P : ℕ → Type 0) (ids : List ℕ) → ((q : ℕ) → is_among ids q ≡ true → P q) → Each P ids
each_among P [] h = tt
each_among P (id ∷ ids) h = (h id (or_first (id == id) (is_among ids id) (eq-eqb id id refl)), each_among P ids (λ q e. h q (or_second (id == q) (is_among ids q) e)))

-- all are up to an id that none is above
pub up_to-all : (top : ℕ) (ids : List ℕ) → AreBelow ids top → up_to top ids ≡ ids
up_to-all top [] h = refl
up_to-all top (x ∷ xs) h =
    ap (λ b. cond b (x ∷ up_to top xs) (up_to top xs)) (le-leb x top (h x (or_first (x == x) (is_among xs x) (eq-eqb x x refl))))
    ∙ ap (λ ys. x ∷ ys) (up_to-all top xs (λ q e. h q (or_second (x == q) (is_among xs q) e)))

-- ---- the ids up to one, and a new one if there is one
abbrev pub with_new : ℕ → List ℕ → Option ℕ → List ℕ
with_new top ids new = up_to top ids ++ option_to_list new

both_of : (top : ℕ) (ids : List ℕ) (q : ℕ) → is_among (up_to top ids) q ≡ true → (q ≤ top) × (is_among ids q ≡ true)
both_of top ids q e =
    let b : (nat_le q top ≡ true) × (is_among ids q ≡ true) = and_parts (nat_le q top) (is_among ids q) (sym (among-up_to top ids q) ∙ e) in
    (leb-true q top b.0, b.1)

pub among_with : (top : ℕ) (ids : List ℕ) (new : Option ℕ) (q : ℕ) → is_among (with_new top ids new) q ≡ true → ((q ≤ top) × (is_among ids q ≡ true)) ⊎ (new ≡ Some q)
among_with top ids None q e = inl (both_of top ids q (sym (ap (λ xs. is_among xs q) (append-nil (up_to top ids))) ∙ e))
among_with top ids (Some id) q e =
    elim (or_parts (is_among (up_to top ids) q) (id == q) (sym (among-push (up_to top ids) id q) ∙ e)) [ inl a ↦ inl (both_of top ids q a) | inr b ↦ inr (ap Some (same b)) ]
  where
    same : (id == q) ≡ true → id ≡ q
    same b = grind (arith, nat_tests, b)

pub old_with : (top : ℕ) (ids : List ℕ) (new : Option ℕ) (q : ℕ) → q ≤ top → is_among ids q ≡ true → is_among (with_new top ids new) q ≡ true
old_with top ids None q l e = ap (λ xs. is_among xs q) (append-nil (up_to top ids)) ∙ among-up_to top ids q ∙ and_both (nat_le q top) (is_among ids q) (le-leb q top l) e
old_with top ids (Some id) q l e =
    among-push (up_to top ids) id q ∙ or_first (is_among (up_to top ids) q) (id == q) (among-up_to top ids q ∙ and_both (nat_le q top) (is_among ids q) (le-leb q top l) e)

pub new_with : (top : ℕ) (ids : List ℕ) (new : Option ℕ) (q : ℕ) → new ≡ Some q → is_among (with_new top ids new) q ≡ true
new_with top ids None q e = cc
new_with top ids (Some id) q e = among-push (up_to top ids) id q ∙ or_second (is_among (up_to top ids) q) (id == q) (eq-eqb id q (same e))
  where
    same : Some id ≡ Some q → id ≡ q
    same e = cc

pub Rises-with : (top : ℕ) (ids : List ℕ) (new : Option ℕ) → Rises ids → ((q : ℕ) → new ≡ Some q → top ≤ q) → Rises (with_new top ids new)
Rises-with top ids None h above = subst Rises (sym (append-nil (up_to top ids))) (Rises-some (λ id. nat_le id top) ids h)
Rises-with top ids (Some id) h above =
    EachPair-push (λ (a b : ℕ). a ≤ b) (up_to top ids) id (Rises-some (λ x. nat_le x top) ids h)
    (each_among (λ x. x ≤ id) (up_to top ids) (λ q e. (let l : q ≤ top = (both_of top ids q e).0 in let m : top ≤ id = above id refl in omega (arith, l, m))))

pub AreBelow-with : (top : ℕ) (ids : List ℕ) (new : Option ℕ) (last : ℕ) → top ≤ last → ((q : ℕ) → new ≡ Some q → q ≤ last) → AreBelow (with_new top ids new) last
AreBelow-with top ids new last l m q e = elim (among_with top ids new q e) [ inl a ↦ (let n : q ≤ top = a.0 in omega (arith, l, n)) | inr b ↦ m q b ]

-- ---- the last ids
pub lasts-push : (base : LastIds) (xs : List LastIds) (x : LastIds) → lasts_of base (xs ++ x ∷ []) ≡ x ∷ lasts_of base xs
lasts-push base xs x = ap (λ ls. ls ++ base ∷ []) (reverse-append xs (x ∷ []))

-- those of the moments past a number of them, and the others
pub lasts-parts : (base : LastIds) (n : ℕ) (xs : List LastIds) → lasts_of base xs ≡ reverse (drop n xs) ++ lasts_of base (take n xs)
lasts-parts base n xs =
    ap (lasts_of base) (sym (take-append-drop n xs)) ∙ ap (λ ls. ls ++ base ∷ []) (reverse-append (take n xs) (drop n xs))
    ∙ append_assoc (reverse (drop n xs)) (reverse (take n xs)) (base ∷ [])

-- if none is above the last, the newest is not
pub newest_up : (last : LastIds) (ls : List LastIds) → Each (IsUpTo last) ls → IsUpTo last (newest ls)
newest_up last [] h = (omega arith, omega arith)
newest_up last (l ∷ ls) h = h.0

pub up_trans : (last before : LastIds) (ls : List LastIds) → IsUpTo last before → Each (IsUpTo before) ls → Each (IsUpTo last) ls
up_trans last before ls u h = Each-map (IsUpTo before) (IsUpTo last) ls (λ l k. (omega (arith, u.0, k.0), omega (arith, u.1, k.1))) h

pub up_itself : (last : LastIds) → IsUpTo last last
up_itself last = (omega arith, omega arith)
