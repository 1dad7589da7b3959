-- The oldest moment of a full book cannot join the base: its change is to be taken out, or a newer moment took it out.
use Rattle.std.proofs.Common.{◌≡◌, ◌≢◌, ◌⊎◌, inl, inr, ℕ, ◌==◌, ◌-◌, ◌≤◌, Bool, true, false, cond, not, ◌&&◌, ◌||◌, List, [], ◌∷◌, ◌++◌, length, take, drop, reverse, refl, sym, ◌∙◌, ap, subst, arith}
use Rattle.std.specs.Prelude.{nat_le, is_some, Option, Some, None}
use Rattle.std.proofs.lemmas.Bool.{eqb-true, le-leb}
use Rattle.std.proofs.lemmas.List.{reverse-append, take-append-drop, length-drop}
use Rattle.journal_model.specs.Replay.{Entry}
use Rattle.journal_model.specs.Force.{is_in_force}
use Rattle.journal_model.specs.Plain.{Past, Pasts, newest_force}
use Rattle.journal_model.specs.Rebase.{or_else, taken_from, first_taken_from, still_taken_out}
use Rattle.journal_model.specs.Window.{kept_line, can_fold, is_first}
use Rattle.journal_model.specs.Book.{PlainBook, force_of}
use Rattle.journal_model.specs.Well.{OneOf, ForceFollows, EachFollows, FollowsFrom, IsWellBook}
use Rattle.journal_invariant.proofs.Following.{EachFollows-rest}
use Rattle.journal_laws.specs.Laws.{TookFrom}
use Rattle.journal_laws.specs.Headline.{HoldsTheWindow}
use Rattle.journal_laws.proofs.Sparing.{taken_out_of}

-- ---- one of a list
OneOf-map : {X : Type 0} (P Q : X → Type 0) (xs : List X) → ((x : X) → P x → Q x) → OneOf P xs → OneOf Q xs
OneOf-map P Q [] f one = one
OneOf-map P Q (x ∷ xs) f (inl here) = inl (f x here)
OneOf-map P Q (x ∷ xs) f (inr further) = inr (OneOf-map P Q xs f further)

OneOf-either : {X : Type 0} (P : X → Type 0) (xs ys : List X) → OneOf P (xs ++ ys) → OneOf P xs ⊎ OneOf P ys
OneOf-either P [] ys one = inr one
OneOf-either P (x ∷ xs) ys (inl here) = inl (inl here)
OneOf-either P (x ∷ xs) ys (inr further) = (elim (OneOf-either P xs ys further) [ inl front ↦ inl (inr front) | inr rest ↦ inr rest ])

OneOf-reverse : {X : Type 0} (P : X → Type 0) (xs : List X) → OneOf P (reverse xs) → OneOf P xs
OneOf-reverse P [] one = one
OneOf-reverse P (x ∷ xs) one =
    let split = OneOf-either P (reverse xs) (x ∷ []) (subst (OneOf P) (reverse-append (x ∷ []) xs) one) in
    (elim split [ inl further ↦ inr (OneOf-reverse P xs further) | inr here ↦ (elim here [ inl it ↦ inl it | inr none ↦ absurd none ]) ])

-- ---- moments
-- the first moment adds the only change
first_force : (m : Past) → FollowsFrom [] m → (e : Entry) × (e.serial ≡ m.serial) × (m.force ≡ e ∷ [])
first_force m f = by m.out f
  where
    by : (out : Option ℕ) → ForceFollows m.serial out [] m.force → (e : Entry) × (e.serial ≡ m.serial) × (m.force ≡ e ∷ [])
    by None f = f
    by (Some out) f = let none : false ≡ true = f.0 in cc

only : (serial : ℕ) (e : Entry) → is_in_force serial (e ∷ []) ≡ true → e.serial ≡ serial
only serial e there = eqb-true e.serial serial (by (e.serial == serial) there)
  where
    by : (b : Bool) → b || false ≡ true → b ≡ true
    by true e = refl
    by false e = cc

took_one : (front : List Entry) (ms : List Past) (serial : ℕ) → first_taken_from front ms ≡ Some serial → OneOf (TookFrom front) ms
took_one front [] serial e = cc
took_one front (m ∷ ms) serial e = by (taken_from front m.serial m.out) refl e (took_one front ms serial)
  where
    by : (o : Option ℕ) → taken_from front m.serial m.out ≡ o → or_else o (first_taken_from front ms) ≡ Some serial → (first_taken_from front ms ≡ Some serial → OneOf (TookFrom front) ms) → OneOf (TookFrom front) (m ∷ ms)
    by None none f rest = inr (rest f)
    by (Some told) is f rest = inl (taken_out_of front m told m.out refl is).1

single : (xs : List Past) → length xs ≡ 1 → (x : Past) × (xs ≡ x ∷ [])
single [] e = cc
single (x ∷ []) e = (x, refl)
single (x ∷ y ∷ xs) e = let long : length (x ∷ y ∷ xs) ≢ 1 = omega arith in absurd (long e)

-- ---- a book
module _ (b : PlainBook) (w : IsWellBook b) (serial : ℕ) (there : is_in_force serial (force_of b) ≡ true) where
  some : 1 ≤ length b.line.moments
  some = by b.line.moments there
    where
      by : (ms : List Past) → is_in_force serial (newest_force ms) ≡ true → 1 ≤ length ms
      by [] e = cc
      by (m ∷ ms) e = omega arith

  abbrev newer : List Past
  newer = take (length b.line.moments - 1) b.line.moments

  abbrev front : List Past
  front = drop (length b.line.moments - 1) b.line.moments

  one : (x : Past) × (front ≡ x ∷ [])
  one = single front (length-drop (length b.line.moments - 1) b.line.moments ∙ omega (arith, some))

  whole : b.line.moments ≡ newer ++ front
  whole = sym (take-append-drop (length b.line.moments - 1) b.line.moments)

  change : (e : Entry) × (e.serial ≡ one.0.serial) × (one.0.force ≡ e ∷ [])
  change =
      let all : EachFollows (newer ++ front) = subst EachFollows whole (EachFollows-rest (reverse b.line.undone) b.line.moments w.follow) in
      first_force one.0 (subst EachFollows one.1 (EachFollows-rest newer front all)).0

  first_list : newest_force front ≡ change.0 ∷ []
  first_list = ap newest_force one.1 ∙ change.2

  pub holds_the_window : (is_first serial b.line || not (can_fold b.line)) ≡ true → HoldsTheWindow b serial
  holds_the_window e = record { newer = newer; oldest = one.0; whole = whole ∙ ap (λ ms. newer ++ ms) one.1; holds = by (is_first serial b.line) refl e }
    where
      took : (n : Option ℕ) → still_taken_out 1 (kept_line b.line) ≡ n → is_some n ≡ true → OneOf (λ (m : Past). m.out ≡ Some one.0.serial) newer
      took None is e = cc
      took (Some n) is e =
          let found : OneOf (TookFrom (newest_force front)) (reverse newer ++ []) = took_one (newest_force front) (reverse newer ++ []) n is in
          let in_front : OneOf (TookFrom (newest_force front)) (reverse newer) = (elim (OneOf-either (TookFrom (newest_force front)) (reverse newer) [] found) [ inl here ↦ here | inr none ↦ absurd none ]) in
          OneOf-map (TookFrom (newest_force front)) (λ (m : Past). m.out ≡ Some one.0.serial) newer
          (λ m t. t.1 ∙ ap Some (sym (only t.0 change.0 (ap (is_in_force t.0) (sym first_list) ∙ t.2)) ∙ change.1))
          (OneOf-reverse (TookFrom (newest_force front)) newer in_front)

      by : (first : Bool) → is_first serial b.line ≡ first → (first || not (can_fold b.line)) ≡ true → (one.0.serial ≡ serial) ⊎ OneOf (λ (m : Past). m.out ≡ Some one.0.serial) newer
      by true is e = inl (sym change.1 ∙ only serial change.0 (ap (is_in_force serial) (sym first_list) ∙ is))
      by false is e = inr (took (still_taken_out 1 (kept_line b.line)) refl (not_folding (nat_le 1 (length b.line.moments)) (is_some (still_taken_out 1 (kept_line b.line))) (le-leb 1 (length b.line.moments) some) e))
        where
          not_folding : (any taken : Bool) → any ≡ true → not (any && not taken) ≡ true → taken ≡ true
          not_folding true true a e = refl
          not_folding true false a e = cc
          not_folding false taken a e = cc
