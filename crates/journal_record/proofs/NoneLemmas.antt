-- Records of which none is of a change that retired something.
use Rattle.std.proofs.Common.{◌≡◌, ℕ, zero, suc, ◌+◌, ◌<◌, ◌≤◌, ◌||◌, not, Bool, true, false, List, [], ◌∷◌, length, take, get_or, refl, sym, ◌∙◌, ap, arith}
use Rattle.std.specs.Prelude.{nat_lt}
use Rattle.std.specs.List.{list_any}
use Rattle.std.specs.Ordering.{is_eq}
use Rattle.std.proofs.lemmas.Bool.{ltb-false}
use Rattle.std.proofs.lemmas.List.{take_more}
use Rattle.std.proofs.lemmas.List.Folds.{list_any-append}
use Rattle.bt_roots.specs.declared.target.Target.{Target}
use Rattle.journal_record.specs.Recorded.{Recorded}
use Rattle.bt_roots.proofs.Targets.{same_target}
use Rattle.host_state.specs.Settled.{is_listed}
use Rattle.journal_record.specs.Records.{retired_by}
use Rattle.journal_record.specs.Retired.{is_retired_by, retires_some, retire_none}

or_false : (a b : Bool) → a ≡ false → b ≡ false → a || (b || false) ≡ false
or_false false false a b = refl
or_false true b a k = cc
or_false false true a k = cc

pub none_next : {X : Type 0} (test : X → Bool) (xs : List X) (i : ℕ) (x : X) → i < length xs → x ≡ get_or xs i x → list_any test (take i xs) ≡ false → test x ≡ false → list_any test (take (i + 1) xs) ≡ false
none_next test xs i x within is none apart =
    ap (list_any test) (take_more xs i x within)
    ∙ list_any-append test (take i xs) (get_or xs i x ∷ [])
    ∙ or_false (list_any test (take i xs)) (test (get_or xs i x)) none (ap test (sym is) ∙ apart)

pub some_taken : {X : Type 0} (test : X → Bool) (xs : List X) (i n : ℕ) (x : X) → i < length xs → i < n → x ≡ get_or xs i x → test x ≡ true → list_any test (take n xs) ≡ true
some_taken test [] i n x within less is there = absurd (omega (arith, within))
some_taken test (y ∷ ys) zero zero x within less is there = absurd (omega (arith, less))
some_taken test (y ∷ ys) zero (suc n) x within less is there = ap (λ b. b || list_any test (take n ys)) (ap test (sym is) ∙ there)
some_taken test (y ∷ ys) (suc i) zero x within less is there = absurd (omega (arith, less))
some_taken test (y ∷ ys) (suc i) (suc n) x within less is there =
    ap (λ b. test y || b) (some_taken test ys i n x (omega (arith, within)) (omega (arith, less)) is there) ∙ or_true (test y)
  where
    or_true : (b : Bool) → b || true ≡ true
    or_true true = refl
    or_true false = refl

-- ---- the objects
none_listed : (r : Recorded) (target : Target) → retires_some r ≡ false → is_listed (retired_by r) target ≡ false
none_listed r target e = by (retired_by r) (ltb-false 0 (length (retired_by r)) e)
  where
    by : (ts : List Target) → length ts ≤ 0 → is_listed ts target ≡ false
    by [] low = refl
    by (t ∷ ts) low = absurd (omega (arith, low))

pub none_by : (rs : List Recorded) → retire_none rs ≡ true → (target : Target) → is_retired_by rs target ≡ false
none_by [] e target = refl
none_by (r ∷ rs) e target = by (retires_some r) refl e (λ rest. none_by rs rest target)
  where
    by : (b : Bool) → retires_some r ≡ b → not (b || list_any retires_some rs) ≡ true → (retire_none rs ≡ true → is_retired_by rs target ≡ false) → is_retired_by (r ∷ rs) target ≡ false
    by true some e rest = cc
    by false none e rest = ap (λ b. b || is_retired_by rs target) (none_listed r target none) ∙ rest e

pub by_none : (rs : List Recorded) → ((target : Target) → is_retired_by rs target ≡ false) → retire_none rs ≡ true
by_none [] none = refl
by_none (r ∷ rs) none = ap (λ b. not (b || list_any retires_some rs)) (unlisted (retired_by r) (λ target. left (is_listed (retired_by r) target) _ (none target))) ∙ by_none rs (λ target. right (is_listed (retired_by r) target) _ (none target))
  where
    left : (a b : Bool) → a || b ≡ false → a ≡ false
    left true b e = cc
    left false b e = refl

    right : (a b : Bool) → a || b ≡ false → b ≡ false
    right true b e = cc
    right false b e = e

    unlisted : (ts : List Target) → ((target : Target) → is_listed ts target ≡ false) → nat_lt 0 (length ts) ≡ false
    unlisted [] none = refl
    unlisted (t ∷ ts) none = absurd (left_out (none t))
      where
        left_out : is_listed (t ∷ ts) t ≡ false → ⊥
        left_out e = let itself : is_listed (t ∷ ts) t ≡ true = ap (λ b. b || is_listed ts t) (ap is_eq (same_target t)) in cc
