-- What giving up the first moments makes of the others.
use Rattle.std.proofs.Common.{◌≡◌, ℕ, suc, ◌+◌, ◌-◌, ◌≤◌, List, [], ◌∷◌, ◌++◌, length, take, drop, reverse, map as each, refl, sym, ◌∙◌, ap, arith}
use Rattle.std.proofs.lemmas.List.{map-append, reverse-append, reverse-reverse, append_assoc, take-append-drop, length-append, length-map, length-reverse, length-take-le}
use Rattle.std.proofs.Math.Seq.{take-append_seam, drop-append_seam, take-append-add}
use Rattle.host_state.specs.State.{State}
use Rattle.journal_model.specs.Replay.{Entry}
use Rattle.journal_model.specs.Plain.{Past, Pasts, newest_state, newest_force}
use Rattle.journal_model.specs.Well.{all_moments}
use Rattle.journal_model.specs.Rebase.{based_on, without_retired, advanced}

-- ---- lists
pub each-reverse : {X Y : Type 0} (f : X → Y) (xs : List X) → each f (reverse xs) ≡ reverse (each f xs)
each-reverse f [] = refl
each-reverse f (x ∷ xs) =
    ap (each f) (reverse-append (x ∷ []) xs) ∙ map-append f (reverse xs) (x ∷ []) ∙ ap (λ ys. ys ++ f x ∷ []) (each-reverse f xs) ∙ sym (reverse-append (f x ∷ []) (each f xs))

append_none : {X : Type 0} (xs : List X) → xs ++ [] ≡ xs
append_none [] = refl
append_none (x ∷ xs) = ap (λ ys. x ∷ ys) (append_none xs)

-- ---- the parts of a line, at a number of moments
module _ (count : ℕ) (p : Pasts) where
  -- how many moments are after it
  abbrev pub behind : ℕ
  behind = length p.moments - count

  abbrev pub earlier : List Past
  earlier = drop behind p.moments

  -- the moments after it, undone or in force, the newest first
  abbrev pub later : List Past
  later = reverse p.undone ++ take behind p.moments

  abbrev pub new_base : State
  new_base = newest_state p.base earlier

  abbrev pub taken_in : List Entry
  taken_in = newest_force earlier

  abbrev pub on_base : Past → Past
  on_base = based_on new_base taken_in

  pub parts : all_moments p ≡ later ++ earlier
  parts = ap (λ ms. reverse p.undone ++ ms) (sym (take-append-drop behind p.moments)) ∙ sym (append_assoc (reverse p.undone) (take behind p.moments) earlier)

  back_again : List Past
  back_again = reverse (take behind p.moments)

  long : length (each on_base back_again) ≡ behind
  unfolding back_again
  long = length-map back_again on_base ∙ length-reverse (take behind p.moments) ∙ length-take-le behind p.moments (omega arith)

  whole : each on_base (back_again ++ p.undone) ≡ each on_base back_again ++ each on_base p.undone
  whole = map-append on_base back_again p.undone

  pub advanced_moments : (advanced count p).moments ≡ each on_base (take behind p.moments)
  unfolding back_again
  advanced_moments =
      append_none (reverse (take behind (each on_base (back_again ++ p.undone))))
      ∙ ap (λ xs. reverse (take behind xs)) whole
      ∙ ap (λ n. reverse (take n (each on_base back_again ++ each on_base p.undone))) (sym long)
      ∙ ap reverse (take-append_seam (each on_base back_again) (each on_base p.undone))
      ∙ sym (each-reverse on_base back_again)
      ∙ ap (each on_base) (reverse-reverse (take behind p.moments))

  pub advanced_undone : (advanced count p).undone ≡ each on_base p.undone
  unfolding back_again
  advanced_undone =
      ap (drop behind) whole
      ∙ ap (λ n. drop n (each on_base back_again ++ each on_base p.undone)) (sym long)
      ∙ drop-append_seam (each on_base back_again) (each on_base p.undone)

  pub all_advanced : all_moments (advanced count p) ≡ each on_base later
  all_advanced =
      ap (λ us. reverse us ++ (advanced count p).moments) advanced_undone
      ∙ ap (λ ms. reverse (each on_base p.undone) ++ ms) advanced_moments
      ∙ ap (λ us. us ++ each on_base (take behind p.moments)) (sym (each-reverse on_base p.undone))
      ∙ sym (map-append on_base (reverse p.undone) (take behind p.moments))

  pub moments_left : length (advanced count p).moments ≡ behind
  moments_left = ap length advanced_moments ∙ length-map (take behind p.moments) on_base ∙ length-take-le behind p.moments (omega arith)

-- ---- two lines that agree up to a number of moments
-- the moments of one lie on those of another, on the same base
pub record LiesOn (below whole : Pasts) : Type 0 where
  pub base : whole.base ≡ below.base
  pub since : List Past
  pub moments : whole.moments ≡ since ++ below.moments

dropped_past : (xs ys : List Past) (n : ℕ) → drop (length xs + n) (xs ++ ys) ≡ drop n ys
dropped_past [] ys n = let same : 0 + n ≡ n = omega arith in ap (λ k. drop k ys) same
dropped_past (x ∷ xs) ys n = let same : length (x ∷ xs) + n ≡ suc (length xs + n) = omega arith in ap (λ k. drop k (x ∷ (xs ++ ys))) same ∙ dropped_past xs ys n

module _ (count : ℕ) (below whole : Pasts) (low : count ≤ length below.moments) (l : LiesOn below whole) where
  apart : behind count whole ≡ length l.since + behind count below
  apart = let more : length whole.moments ≡ length l.since + length below.moments = ap length l.moments ∙ length-append l.since below.moments in omega arith

  pub same_earlier : earlier count whole ≡ earlier count below
  same_earlier = ap (λ n. drop n whole.moments) apart ∙ ap (drop (length l.since + behind count below)) l.moments ∙ dropped_past l.since below.moments (behind count below)

  pub same_base : new_base count whole ≡ new_base count below
  same_base = ap (newest_state whole.base) same_earlier ∙ ap (λ s. newest_state s (earlier count below)) l.base

  pub same_ahead : take (behind count whole) whole.moments ≡ l.since ++ take (behind count below) below.moments
  same_ahead = ap (λ n. take n whole.moments) apart ∙ ap (take (length l.since + behind count below)) l.moments ∙ take-append-add l.since below.moments (behind count below)

  pub same_on : on_base count whole ≡ on_base count below
  same_on = λ i. based_on (same_base i) (newest_force (same_earlier i))

  -- they agree so too when the same moments are given up
  pub lies_advanced : LiesOn (advanced count below) (advanced count whole)
  lies_advanced = record {
    base = ap (λ s. without_retired s s) same_base;
    since = each (on_base count below) l.since;
    moments = advanced_moments count whole ∙ ap (λ f. each f (take (behind count whole) whole.moments)) same_on ∙ ap (each (on_base count below)) same_ahead
        ∙ map-append (on_base count below) l.since (take (behind count below) below.moments) ∙ ap (λ ms. each (on_base count below) l.since ++ ms) (sym (advanced_moments count below));
  }
