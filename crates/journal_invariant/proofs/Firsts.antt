-- The oldest moment can join the base just if its change is in force, which is the first then.
use Rattle.std.proofs.Common.{◌≡◌, ◌≢◌, ℕ, ◌==◌, ◌-◌, ◌<◌, ◌≤◌, ◌&&◌, ◌||◌, Bool, true, false, cond, not, List, [], ◌∷◌, ◌++◌, length, take, drop, reverse, filter, refl, sym, ◌∙◌, ap, ap₂, subst, arith}
use Rattle.std.specs.Prelude.{nat_le, is_some, Option, Some, None}
use Rattle.std.proofs.lemmas.Bool.{eqb-true, eq-eqb, le-leb, lt-leb}
use Rattle.std.proofs.lemmas.Bool.Decides.{nat_tests}
use Rattle.std.proofs.lemmas.List.{reverse-reverse, take-append-drop, length-drop}
use Rattle.journal_model.specs.Replay.{Entry}
use Rattle.journal_model.specs.Force.{is_in_force, without}
use Rattle.journal_model.specs.Plain.{Past, Pasts, newest_force}
use Rattle.journal_model.specs.Rebase.{taken_from, first_taken_from, still_taken_out}
use Rattle.journal_model.specs.Window.{kept_line, can_fold, is_first, first_serial, oldest_serial, if_same, first_in_force, is_held}
use Rattle.journal_model.specs.Book.{PlainBook}
use Rattle.journal_model.specs.Well.{Each, EachPair, ForceFollows, EachFollows, FollowsFrom, IsWellBook}
use Rattle.journal_model.proofs.Lists.{Each-append, Each-front, Each-rest, Each-reverse, EachPair-rest}
use Rattle.journal_invariant.proofs.Following.{EachFollows-rest, Spares, spares, BeginsWith, in_force-append, all_behind}
use Rattle.journal_invariant.proofs.Windowed.{none_took, kept_none}

-- ---- the oldest moment
-- it adds the only change in force
pub first_force : (m : Past) → FollowsFrom [] m → (e : Entry) × (e.serial ≡ m.serial) × (m.force ≡ e ∷ [])
first_force m f = by m.out f
  where
    by : (out : Option ℕ) → ForceFollows m.serial out [] m.force → (e : Entry) × (e.serial ≡ m.serial) × (m.force ≡ e ∷ [])
    by None f = f
    by (Some out) f = let none : false ≡ true = f.0 in cc

pub single : (xs : List Past) → length xs ≡ 1 → (x : Past) × (xs ≡ x ∷ [])
single [] e = cc
single (x ∷ []) e = (x, refl)
single (x ∷ y ∷ xs) e = let long : length (x ∷ y ∷ xs) ≢ 1 = omega arith in absurd (long e)

oldest_behind : (ms : List Past) (m : Past) → oldest_serial (ms ++ m ∷ []) ≡ Some m.serial
oldest_behind [] m = refl
oldest_behind (x ∷ []) m = refl
oldest_behind (x ∷ y ∷ ms) m = oldest_behind (y ∷ ms) m

-- ---- a change that is in force still
left_there : (serial out : ℕ) (es : List Entry) → is_in_force serial (without out es) ≡ true → (out ≢ serial) × (is_in_force serial es ≡ true)
left_there serial out [] e = cc
left_there serial out (x ∷ es) e = by (x.serial == out) (x.serial == serial) refl refl e (left_there serial out es)
  where
    by : (is_out is_it : Bool) → (x.serial == out) ≡ is_out → (x.serial == serial) ≡ is_it → is_in_force serial (cond (not is_out) (x ∷ without out es) (without out es)) ≡ true
        → (is_in_force serial (without out es) ≡ true → (out ≢ serial) × (is_in_force serial es ≡ true)) → (out ≢ serial) × (is_in_force serial (x ∷ es) ≡ true)
    by true is_it o i e rest = let r = rest e in (r.0, ap (λ b. (x.serial == serial) || b) r.1 ∙ or_true (x.serial == serial))
      where
        or_true : (b : Bool) → b || true ≡ true
        or_true true = refl
        or_true false = refl
    by false true o i e rest = ((λ same. absurd (apart same)), ap (λ b. b || is_in_force serial es) i)
      where
        apart : out ≡ serial → ⊥
        apart same = let is : x.serial ≡ serial = eqb-true x.serial serial i in let there : (x.serial == out) ≡ true = eq-eqb x.serial out (is ∙ sym same) in cc
    by false false o i e rest = let r = rest (ap (λ b. b || is_in_force serial (without out es)) (sym i) ∙ e) in (r.0, ap (λ b. b || is_in_force serial es) i ∙ r.1)

-- a change newer than this one adds another
not_added : (serial new : ℕ) (before : List Entry) (e : Entry) → e.serial ≡ new → serial < new → is_in_force serial (before ++ e ∷ []) ≡ true → is_in_force serial before ≡ true
not_added serial new before e is newer there =
    let apart : (e.serial == serial) ≡ false = grind (arith, nat_tests, is, newer) in
    by (is_in_force serial before) (e.serial == serial) apart (sym (in_force-append serial before (e ∷ [])) ∙ there)
  where
    by : (a b : Bool) → b ≡ false → a || (b || false) ≡ true → a ≡ true
    by true b n e = refl
    by false true n e = cc
    by false false n e = cc

module _ (first : Entry) (oldest : Past) (force : oldest.force ≡ first ∷ []) (its : first.serial ≡ oldest.serial) where
  abbrev front : List Entry
  front = first ∷ []

  -- then no newer moment took it out
  still_there : (ms : List Past) → EachFollows (ms ++ oldest ∷ []) → Each (λ (m : Past). oldest.serial < m.serial) ms → is_in_force oldest.serial (newest_force (ms ++ oldest ∷ [])) ≡ true → Each (Spares front) ms
  still_there [] f newer there = tt
  still_there (m ∷ ms) f newer there = by m.out f.0 (still_there ms f.1 newer.1)
    where
      before : List Entry
      before = newest_force (ms ++ oldest ∷ [])

      apart : (out : ℕ) → (out ≢ oldest.serial) → taken_from front m.serial (Some out) ≡ None
      apart out differs = ap (λ b. cond (b || false) (Some m.serial) None) (unequal (first.serial == out) refl)
        where
          unequal : (b : Bool) → (first.serial == out) ≡ b → (first.serial == out) ≡ false
          unequal true is = absurd (differs (sym (eqb-true first.serial out is) ∙ its))
          unequal false is = is

      by : (out : Option ℕ) → ForceFollows m.serial out before m.force → (is_in_force oldest.serial before ≡ true → Each (Spares front) ms) → (taken_from front m.serial out ≡ None) × Each (Spares front) ms
      by None g rest = (refl, rest (not_added oldest.serial m.serial before g.0 g.1 newer.0 (ap (is_in_force oldest.serial) (sym g.2) ∙ there)))
      by (Some out) g rest = let l = left_there oldest.serial out before (ap (is_in_force oldest.serial) (sym g.1) ∙ there) in (apart out l.0, rest l.1)

-- ---- a line with moments
module _ (b : PlainBook) (w : IsWellBook b) (some : 1 ≤ length b.line.moments) where
  abbrev pub newer : List Past
  newer = take (length b.line.moments - 1) b.line.moments

  abbrev pub last : List Past
  last = drop (length b.line.moments - 1) b.line.moments

  pub oldest : (x : Past) × (last ≡ x ∷ [])
  oldest = single last (length-drop (length b.line.moments - 1) b.line.moments ∙ omega (arith, some))

  pub whole : b.line.moments ≡ newer ++ oldest.0 ∷ []
  whole = sym (take-append-drop (length b.line.moments - 1) b.line.moments) ∙ ap (λ ms. newer ++ ms) oldest.1

  follow : EachFollows (newer ++ oldest.0 ∷ [])
  follow = subst EachFollows whole (EachFollows-rest (reverse b.line.undone) b.line.moments w.follow)

  pub change : (e : Entry) × (e.serial ≡ oldest.0.serial) × (oldest.0.force ≡ e ∷ [])
  change = first_force oldest.0 (EachFollows-rest newer (oldest.0 ∷ []) follow).0

  pub first_list : newest_force last ≡ change.0 ∷ []
  first_list = ap newest_force oldest.1 ∙ change.2

  rising : EachPair (λ (new old : Past). old.serial < new.serial) (newer ++ oldest.0 ∷ [])
  rising = subst (EachPair (λ (new old : Past). old.serial < new.serial)) whole (EachPair-rest (λ (new old : Past). old.serial < new.serial) (reverse b.line.undone) b.line.moments w.rising)

  all_newer : (ms : List Past) → EachPair (λ (new old : Past). old.serial < new.serial) (ms ++ oldest.0 ∷ []) → Each (λ (m : Past). oldest.0.serial < m.serial) ms
  all_newer [] r = tt
  all_newer (m ∷ ms) r = ((Each-rest (λ (old : Past). old.serial < m.serial) ms (oldest.0 ∷ []) r.0).0, all_newer ms r.1)

  -- if the oldest can join the base, its change is the first in force
  found : can_fold b.line ≡ true → first_in_force b.line ≡ Some oldest.0.serial
  found fold =
      let front : List Entry = change.0 ∷ [] in
      let spared : Each (Spares front) (reverse newer) =
      subst (λ es. Each (Spares es) (reverse newer)) first_list (Each-front (Spares (newest_force last)) (reverse newer) [] (spares (newest_force last) (reverse newer ++ []) (kept_none b.line fold))) in
      let begins : BeginsWith front (newest_force (newer ++ oldest.0 ∷ [])) =
      (all_behind b.line.base front newer (oldest.0 ∷ []) change.2 follow (subst (Each (Spares front)) (reverse-reverse newer) (Each-reverse (Spares front) (reverse newer) spared))).newest in
      let first : first_serial (newest_force b.line.moments) ≡ Some oldest.0.serial = ap first_serial (ap newest_force whole ∙ begins.is) ∙ ap Some change.1 in
      (λ i. if_same (first i) ((ap oldest_serial whole ∙ oldest_behind newer oldest.0) i))
      ∙ ap (λ t. cond t (Some oldest.0.serial) None) (eq-eqb oldest.0.serial oldest.0.serial refl)

  -- and if it is the first in force, the oldest can join the base
  folding : (n : ℕ) → first_in_force b.line ≡ Some n → can_fold b.line ≡ true
  folding n e = ap₂ (λ any none. any && not (is_some none)) (le-leb 1 (length b.line.moments) some) none
    where
      old : oldest_serial b.line.moments ≡ Some oldest.0.serial
      old = ap oldest_serial whole ∙ oldest_behind newer oldest.0

      there : (es : List Entry) → newest_force b.line.moments ≡ es → if_same (first_serial es) (Some oldest.0.serial) ≡ Some n → is_in_force oldest.0.serial es ≡ true
      there [] is f = cc
      there (x ∷ es) is f = by (x.serial == oldest.0.serial) refl f
        where
          by : (same : Bool) → (x.serial == oldest.0.serial) ≡ same → cond same (Some x.serial) None ≡ Some n → (x.serial == oldest.0.serial) || is_in_force oldest.0.serial es ≡ true
          by true is f = ap (λ t. t || is_in_force oldest.0.serial es) is
          by false is f = cc

      in_force : is_in_force oldest.0.serial (newest_force (newer ++ oldest.0 ∷ [])) ≡ true
      in_force = ap (λ ms. is_in_force oldest.0.serial (newest_force ms)) (sym whole) ∙ there (newest_force b.line.moments) refl (ap (if_same (first_serial (newest_force b.line.moments))) (sym old) ∙ e)

      spared : Each (Spares (newest_force last)) newer
      spared = subst (λ es. Each (Spares es) newer) (sym first_list) (still_there change.0 oldest.0 change.2 change.1 newer follow (all_newer newer rising) in_force)

      none : still_taken_out 1 (kept_line b.line) ≡ None
      none = none_took (newest_force last) (reverse newer ++ []) (Each-append (Spares (newest_force last)) (reverse newer) [] (Each-reverse (Spares (newest_force last)) newer spared) tt)

  folds_some : can_fold b.line ≡ is_some (first_in_force b.line)
  folds_some = by (can_fold b.line) (first_in_force b.line) refl refl
    where
      by : (fold : Bool) (o : Option ℕ) → can_fold b.line ≡ fold → first_in_force b.line ≡ o → fold ≡ is_some o
      by true None f e = cc (sym e ∙ found f)
      by true (Some n) f e = refl
      by false None f e = refl
      by false (Some n) f e = sym f ∙ folding n e

  -- whether the change of a serial is the oldest moment's, or that cannot join the base
  holds_some : (serial : ℕ) → (is_first serial b.line || not (can_fold b.line)) ≡ is_held serial (first_in_force b.line)
  holds_some serial = by (can_fold b.line) (first_in_force b.line) refl refl
    where
      by : (fold : Bool) (o : Option ℕ) → can_fold b.line ≡ fold → first_in_force b.line ≡ o → (is_first serial b.line || not fold) ≡ is_held serial o
      by true None f e = cc (sym e ∙ found f)
      by true (Some n) f e =
          let its : n ≡ oldest.0.serial = cc (sym e ∙ found f) in
          ap (λ es. is_in_force serial es || false) first_list ∙ or_none (change.0.serial == serial) ∙ ap (λ k. k == serial) (change.1 ∙ sym its)
        where
          or_none : (t : Bool) → (t || false) || false ≡ t
          or_none true = refl
          or_none false = refl
      by false None f e = or_true (is_first serial b.line)
        where
          or_true : (t : Bool) → t || true ≡ true
          or_true true = refl
          or_true false = refl
      by false (Some n) f e = cc (sym f ∙ folding n e)

-- ---- any book
pub folds : (b : PlainBook) → IsWellBook b → can_fold b.line ≡ is_some (first_in_force b.line)
folds b w = by b.line.moments refl
  where
    by : (ms : List Past) → b.line.moments ≡ ms → can_fold b.line ≡ is_some (first_in_force b.line)
    by [] e =
        let none : can_fold b.line ≡ false = ap (λ ms. nat_le 1 (length ms) && not (is_some (still_taken_out 1 (kept_line b.line)))) e in
        none ∙ sym (ap (λ ms. is_some (if_same (first_serial (newest_force ms)) (oldest_serial ms))) e)
    by (m ∷ ms) e = folds_some b w (omega (arith, ap length e))

pub holds : (b : PlainBook) → IsWellBook b → (serial : ℕ) → (is_first serial b.line || not (can_fold b.line)) ≡ is_held serial (first_in_force b.line)
holds b w serial = by b.line.moments refl
  where
    by : (ms : List Past) → b.line.moments ≡ ms → (is_first serial b.line || not (can_fold b.line)) ≡ is_held serial (first_in_force b.line)
    by [] e =
        let none : can_fold b.line ≡ false = ap (λ ms. nat_le 1 (length ms) && not (is_some (still_taken_out 1 (kept_line b.line)))) e in
        ap (λ t. is_first serial b.line || not t) none ∙ or_true (is_first serial b.line) ∙ sym (ap (λ ms. is_held serial (if_same (first_serial (newest_force ms)) (oldest_serial ms))) e)
      where
        or_true : (t : Bool) → t || true ≡ true
        or_true true = refl
        or_true false = refl
    by (m ∷ ms) e = holds_some b w (omega (arith, ap length e)) serial
