-- How the words of a line begin.
use Rattle.std.proofs.Common.{◌≡◌, ℕ, ◌<◌, ◌≤◌, Bool, true, false, cond, List, [], ◌∷◌, length, take, drop, get_or, refl, sym, ◌∙◌, ap, subst, arith, suc, zero}
use Rattle.std.specs.Prelude.{◌||◌}
use Rattle.std.specs.List.{slice_split, onto_first, filter, list_any}
use Rattle.std.proofs.lemmas.List.Splits.{slice_split-cons_yes, slice_split-cons_no}
use Rattle.std.proofs.lemmas.Bool.{eqb-true}
use Rattle.std.proofs.lemmas.List.{length-take-le}
use Rattle.console_operand.specs.Word.{is_space, is_comment, ends_word, ends_here, before_comment, has_bytes, words}

-- the parts of a line between its spaces
abbrev split : List ℕ → List (List ℕ)
split line = slice_split is_space (before_comment line)

neither : (a b : Bool) → (a || b) ≡ false → (a ≡ false) × (b ≡ false)
neither true b h = cc
neither false b h = (refl, h)

no_comment : (byte : ℕ) → is_space byte ≡ true → is_comment byte ≡ false
no_comment byte space =
    elim (is_comment byte) as (λ b. is_comment byte ≡ b → b ≡ false) [
      | true ↦ λ e. let other : false ≡ true = subst (λ x. is_space x ≡ true) (eqb-true byte 35 e) space in cc
      | false ↦ λ _. refl
    ] refl

split_space : (byte : ℕ) (line : List ℕ) → is_space byte ≡ true → split (byte ∷ line) ≡ [] ∷ split line
split_space byte line space =
    ap (λ b. slice_split is_space (cond b [] (byte ∷ before_comment line))) (no_comment byte space) ∙ slice_split-cons_yes is_space byte (before_comment line) space

split_comment : (byte : ℕ) (line : List ℕ) → is_comment byte ≡ true → split (byte ∷ line) ≡ [] ∷ []
split_comment byte line comment = ap (λ b. slice_split is_space (cond b [] (byte ∷ before_comment line))) comment

split_letter : (byte : ℕ) (line : List ℕ) → ends_word byte ≡ false → split (byte ∷ line) ≡ onto_first byte (split line)
split_letter byte line letter =
    let (no_space, comment) = neither (is_space byte) (is_comment byte) letter in
    ap (λ b. slice_split is_space (cond b [] (byte ∷ before_comment line))) comment ∙ slice_split-cons_no is_space byte (before_comment line) no_space

-- what stands in front of a space or of the comment, and after that
record Parts (line : List ℕ) (n : ℕ) : Type 0 where
  behind : List (List ℕ)
  cut : split line ≡ take n line ∷ behind
  rest : filter has_bytes behind ≡ words (drop n line)

parts_at : (byte : ℕ) (line : List ℕ) → ends_word byte ≡ true → Parts (byte ∷ line) 0
parts_at byte line ends =
    elim (is_comment byte) as (λ b. is_comment byte ≡ b → (is_space byte || b) ≡ true → Parts (byte ∷ line) 0) [
      | true ↦ λ comment _.
          let all = split_comment byte line comment in
          record { behind = []; cut = all; rest = sym (ap (filter has_bytes) all) }
      | false ↦ λ _ e.
          elim (is_space byte) as (λ b. is_space byte ≡ b → (b || false) ≡ true → Parts (byte ∷ line) 0) [
            | true ↦ λ space _. let all = split_space byte line space in record { behind = split line; cut = all; rest = sym (ap (filter has_bytes) all) }
            | false ↦ λ _ no. cc
          ] refl e
    ] refl ends

parts : (line : List ℕ) (n : ℕ) → n ≤ length line → ((k : ℕ) → k < n → ends_word (get_or line k 0) ≡ false) → (n < length line → ends_word (get_or line n 0) ≡ true) → Parts line n
parts [] zero h inside at = record { behind = []; cut = refl; rest = refl }
parts [] (suc n) h inside at = absurd (omega arith)
parts (byte ∷ line) zero h inside at = parts_at byte line (at (omega arith))
parts (byte ∷ line) (suc n) h inside at =
    let it = parts line n (omega arith) (λ k below. inside (suc k) (omega arith)) (λ below. at (omega arith)) in
    record { behind = it.behind; cut = split_letter byte line (inside 0 (omega arith)) ∙ ap (onto_first byte) it.cut; rest = it.rest }

-- the first word ends at a space, at the comment or with the line
pub words_first : (line : List ℕ) (n : ℕ) → 0 < n → n ≤ length line → ((k : ℕ) → k < n → ends_word (get_or line k 0) ≡ false) → (n < length line → ends_word (get_or line n 0) ≡ true) →
    words line ≡ take n line ∷ words (drop n line)
words_first line zero some h inside at = absurd (omega arith)
words_first [] (suc n) some h inside at = absurd (omega arith)
words_first (byte ∷ line) (suc n) some h inside at =
    let it = parts (byte ∷ line) (suc n) h inside at in
    ap (filter has_bytes) it.cut ∙ ap (λ rest. (byte ∷ take n line) ∷ rest) it.rest

-- no word stands in front of a comment, nor at the end
pub words_none : (line : List ℕ) (n : ℕ) → n ≡ 0 → (0 < length line → is_space (get_or line 0 0) ≡ false) → (n < length line → ends_word (get_or line n 0) ≡ true) → words line ≡ []
words_none line (suc n) none no_space at = absurd (omega arith)
words_none [] zero none no_space at = refl
words_none (byte ∷ line) zero none no_space at =
    elim (is_comment byte) as (λ b. is_comment byte ≡ b → (is_space byte || b) ≡ true → words (byte ∷ line) ≡ []) [
      | true ↦ λ comment _. ap (filter has_bytes) (split_comment byte line comment)
      | false ↦ λ _ e. let no = no_space (omega arith) in cc
    ] refl (at (omega arith))

-- a space is no part of a word
pub words_space : (byte : ℕ) (line : List ℕ) → is_space byte ≡ true → words (byte ∷ line) ≡ words line
words_space byte line space = ap (filter has_bytes) (split_space byte line space)

pub skip_space : (line : List ℕ) (n : ℕ) → n < length line → is_space (get_or line n 0) ≡ true → words (drop (suc n) line) ≡ words (drop n line)
skip_space [] n h space = absurd (omega arith)
skip_space (byte ∷ line) zero h space = sym (words_space byte line space)
skip_space (byte ∷ line) (suc n) h space = skip_space line n (omega arith) space

-- how many bytes stand in front of the first that ends a word
abbrev letters : List ℕ → ℕ
letters [] = 0
letters (byte ∷ line) = cond (ends_word byte) 0 (suc (letters line))

letters_bound : (line : List ℕ) → letters line ≤ length line
letters_bound [] = omega arith
letters_bound (byte ∷ line) =
    elim (ends_word byte) as (λ b. cond b 0 (suc (letters line)) ≤ length (byte ∷ line)) [
      | true ↦ omega arith
      | false ↦ omega (arith, letters_bound line)
    ]

letters_inside : (line : List ℕ) (k : ℕ) → k < letters line → ends_word (get_or line k 0) ≡ false
letters_inside [] k h = absurd (omega arith)
letters_inside (byte ∷ line) zero h =
    elim (ends_word byte) as (λ b. ends_word byte ≡ b → 0 < cond b 0 (suc (letters line)) → ends_word byte ≡ false) [
      | true ↦ λ _ below. absurd (omega arith)
      | false ↦ λ e _. e
    ] refl h
letters_inside (byte ∷ line) (suc k) h =
    elim (ends_word byte) as (λ b. suc k < cond b 0 (suc (letters line)) → ends_word (get_or line k 0) ≡ false) [
      | true ↦ λ below. absurd (omega arith)
      | false ↦ λ below. letters_inside line k (omega arith)
    ] h

letters_at : (line : List ℕ) → letters line < length line → ends_word (get_or line (letters line) 0) ≡ true
letters_at [] h = absurd (omega arith)
letters_at (byte ∷ line) h =
    elim (ends_word byte) as (λ b. ends_word byte ≡ b → cond b 0 (suc (letters line)) < length (byte ∷ line) → ends_word (get_or (byte ∷ line) (cond b 0 (suc (letters line))) 0) ≡ true) [
      | true ↦ λ e _. e
      | false ↦ λ _ below. letters_at line (omega arith)
    ] refl h

ends_at : (line : List ℕ) (n : ℕ) → (n < length line → ends_word (get_or line n 0) ≡ true) → ends_here (drop n line) ≡ true
ends_at [] zero at = refl
ends_at [] (suc n) at = refl
ends_at (byte ∷ line) zero at = at (omega arith)
ends_at (byte ∷ line) (suc n) at = ends_at line n (λ below. at (omega arith))

at_end : (line : List ℕ) (n : ℕ) → ends_here (drop n line) ≡ true → n < length line → ends_word (get_or line n 0) ≡ true
at_end [] n e below = absurd (omega arith)
at_end (byte ∷ line) zero e below = e
at_end (byte ∷ line) (suc n) e below = at_end line n e (omega arith)

-- a word that stands in front, if no word goes on after it
pub record Stands (line word : List ℕ) : Type 0 where
  pub front : take (length word) line ≡ word
  pub behind : ends_here (drop (length word) line) ≡ true

-- if the words begin with this one, it stands in front
pub stands : (line word : List ℕ) (rest : List (List ℕ)) → (0 < length line → is_space (get_or line 0 0) ≡ false) → words line ≡ word ∷ rest → Stands line word
stands line word rest no_space h = by (letters line) refl
  where
    by : (n : ℕ) → letters line ≡ n → Stands line word
    by zero e = let none : words line ≡ [] = words_none line (letters line) e no_space (letters_at line) in cc
    by (suc n) e =
        let some : 0 < letters line = omega (arith, e) in
        let first = words_first line (letters line) some (letters_bound line) (letters_inside line) (letters_at line) in
        let is : take (letters line) line ≡ word = cc in
        let long : length word ≡ letters line = ap length (sym is) ∙ length-take-le (letters line) line (letters_bound line) in
        record { front = ap (λ k. take k line) long ∙ is; behind = ap (λ k. ends_here (drop k line)) long ∙ ends_at line (letters line) (letters_at line) }

get_taken : (line : List ℕ) (n k : ℕ) → k < n → get_or (take n line) k 0 ≡ get_or line k 0
get_taken line zero k h = absurd (omega arith)
get_taken [] (suc n) k h = refl
get_taken (byte ∷ line) (suc n) zero h = refl
get_taken (byte ∷ line) (suc n) (suc k) h = get_taken line n k (omega arith)

no_end : (word : List ℕ) (k : ℕ) → k < length word → list_any ends_word word ≡ false → ends_word (get_or word k 0) ≡ false
no_end [] k h none = absurd (omega arith)
no_end (byte ∷ word) zero h none = (neither (ends_word byte) (list_any ends_word word) none).0
no_end (byte ∷ word) (suc k) h none = no_end word k (omega arith) (neither (ends_word byte) (list_any ends_word word) none).1

-- and if it stands in front, they begin with it
pub stands_first : (line word : List ℕ) → 0 < length word → list_any ends_word word ≡ false → length word ≤ length line → Stands line word → words line ≡ word ∷ words (drop (length word) line)
stands_first line word some letters fits it =
    words_first line (length word) some fits
    (λ k below. ap ends_word (sym (get_taken line (length word) k below) ∙ ap (λ w. get_or w k 0) it.front) ∙ no_end word k below letters)
    (at_end line (length word) it.behind)
    ∙ ap (λ w. w ∷ words (drop (length word) line)) it.front
