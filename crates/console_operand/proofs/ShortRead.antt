-- Bytes as most lines write them: the word that comes after one space, and the byte that its digits spell.
use Rattle.std.proofs.Common.{◌≡◌, ◌≢◌, ℕ, ◌+◌, ◌-◌, ◌*◌, ◌<◌, ◌≤◌, Bool, true, false, cond, List, [], ◌∷◌, length, take, drop, get_or, refl, sym, ◌∙◌, ap, subst, arith, suc, zero, Some, None}
use Rattle.std.specs.Prelude.{codes, ◌==◌, ◌&&◌, ◌||◌, nat_eq}
use Rattle.std.specs.List.{list_all}
use Rattle.std.proofs.lemmas.Bool.{eqb-true, ltb-true, lt-ltb, ne_eqb}
use Rattle.std.proofs.Math.Bool.{and-false}
use Rattle.std.proofs.Math.Seq.{take-length}
use Rattle.console_operand.specs.Word.{is_space, ends_word, ends_here, words}
use Rattle.console_operand.specs.Number.{digit_of, is_digit, value_behind, numeral_of, begins, below, byte_of, hex_byte_of}
use Rattle.console_operand.specs.DataSteps.{BeginsByte}
use Rattle.console_operand.proofs.Cuts.{words_first, words_space}

both : (a b : Bool) → (a && b) ≡ true → (a ≡ true) × (b ≡ true)
both true b h = (refl, h)
both false b h = cc

-- a digit is no other byte
no_digit : (base byte other : ℕ) → base ≤ 16 → is_digit base byte ≡ true → digit_of other ≡ 16 → byte ≢ other
no_digit base byte other most h none same =
    let less : digit_of other < base = ltb-true (digit_of other) base (subst (λ x. is_digit base x ≡ true) same h) in omega (arith, less, none, most)

-- so it ends no word
digit_goes_on : (base byte : ℕ) → base ≤ 16 → is_digit base byte ≡ true → ends_word byte ≡ false
digit_goes_on base byte most h =
    ap (λ b. (b || (byte == 9)) || (byte == 35)) (ne_eqb byte 32 (no_digit base byte 32 most h refl))
    ∙ ap (λ b. b || (byte == 35)) (ne_eqb byte 9 (no_digit base byte 9 most h refl))
    ∙ ne_eqb byte 35 (no_digit base byte 35 most h refl)

-- digits with a space in front are the first word, if no word goes on after them
digits_first : (base space n : ℕ) (text : List ℕ) → base ≤ 16 → is_space space ≡ true → 0 < n → n ≤ length text → ((k : ℕ) → k < n → is_digit base (get_or text k 0) ≡ true) →
    ends_here (drop n text) ≡ true → words (space ∷ text) ≡ take n text ∷ words (drop n text)
digits_first base space n text most s some h digits ends =
    words_space space text s ∙ words_first text n some h (λ k below. digit_goes_on base (get_or text k 0) most (digits k below)) (ends_at text n ends)
  where
    ends_at : (text : List ℕ) (n : ℕ) → ends_here (drop n text) ≡ true → n < length text → ends_word (get_or text n 0) ≡ true
    ends_at [] n e below = absurd (omega arith)
    ends_at (byte ∷ text) zero e below = e
    ends_at (byte ∷ text) (suc n) e below = ends_at text n e (omega arith)

-- the front of a text all of whose bytes are digits
digits_taken : (base n : ℕ) (text : List ℕ) → n ≤ length text → ((k : ℕ) → k < n → is_digit base (get_or text k 0) ≡ true) → list_all (is_digit base) (take n text) ≡ true
digits_taken base zero text h digits = refl
digits_taken base (suc n) [] h digits = absurd (omega arith)
digits_taken base (suc n) (byte ∷ text) h digits =
    ap (λ b. b && list_all (is_digit base) (take n text)) (digits 0 (omega arith)) ∙ digits_taken base n text (omega arith) (λ k below. digits (suc k) (omega arith))

-- what they come to below 256
digits_byte : (base : ℕ) (word : List ℕ) → 0 < length word → list_all (is_digit base) word ≡ true → value_behind base 0 word < 256 →
    below 256 (numeral_of base word) ≡ Some (value_behind base 0 word)
digits_byte base [] some all small = absurd (omega arith)
digits_byte base (byte ∷ word) some all small =
    ap (λ b. below 256 (cond b (Some (value_behind base 0 (byte ∷ word))) None)) all
    ∙ ap (λ b. cond b (Some (value_behind base 0 (byte ∷ word))) None) (lt-ltb (value_behind base 0 (byte ∷ word)) 256 small)

-- digits do not begin with `0x`
no_0x : (base : ℕ) (word : List ℕ) → base ≤ 16 → list_all (is_digit base) word ≡ true → begins word (codes "0x") ≡ false
no_0x base [] most h = refl
no_0x base (a ∷ []) most h = and-false (nat_eq 48 a)
no_0x base (a ∷ b ∷ word) most h =
    let digit : is_digit base b ≡ true = (both (is_digit base b) (list_all (is_digit base) word) (both (is_digit base a) (list_all (is_digit base) (b ∷ word)) h).1).0 in
    ap (λ t. nat_eq 48 a && (t && true)) (ne_eqb 120 b (λ e. no_digit base b 120 most digit refl (sym e))) ∙ and-false (nat_eq 48 a)

hex_is : (word : List ℕ) → 0 < length word → list_all (is_digit 16) word ≡ true → value_behind 16 0 word < 256 → hex_byte_of word ≡ Some (value_behind 16 0 word)
hex_is word some all small =
    ap (λ t. below 256 (numeral_of 16 (cond t (drop 2 word) word))) (no_0x 16 word (omega arith) all) ∙ digits_byte 16 word some all small

decimal_is : (word : List ℕ) → 0 < length word → list_all (is_digit 10) word ≡ true → value_behind 10 0 word < 256 → (1 < length word → get_or word 0 0 ≢ 48) →
    byte_of word ≡ Some (value_behind 10 0 word)
decimal_is word some all small high =
    ap (λ t. below 256 (cond t (numeral_of 16 (drop 2 word)) (cond (begins word (codes "0")) (numeral_of 8 word) (numeral_of 10 word)))) (no_0x 10 word (omega arith) all)
    ∙ by word some all small high
  where
    by : (word : List ℕ) → 0 < length word → list_all (is_digit 10) word ≡ true → value_behind 10 0 word < 256 → (1 < length word → get_or word 0 0 ≢ 48) →
        below 256 (cond (begins word (codes "0")) (numeral_of 8 word) (numeral_of 10 word)) ≡ Some (value_behind 10 0 word)
    by [] some all small high = absurd (omega arith)
    by (a ∷ []) some all small high =
        elim (nat_eq 48 a) as (λ t. nat_eq 48 a ≡ t → below 256 (cond (t && true) (numeral_of 8 (a ∷ [])) (numeral_of 10 (a ∷ []))) ≡ Some (value_behind 10 0 (a ∷ []))) [
          | true ↦ λ e. subst (λ x. below 256 (numeral_of 8 (x ∷ [])) ≡ Some (value_behind 10 0 (x ∷ []))) (eqb-true 48 a e) refl
          | false ↦ λ _. digits_byte 10 (a ∷ []) some all small
        ] refl
    by (a ∷ b ∷ word) some all small high =
        ap (λ t. below 256 (cond (t && true) (numeral_of 8 (a ∷ b ∷ word)) (numeral_of 10 (a ∷ b ∷ word)))) (ne_eqb 48 a (λ e. high (omega arith) (sym e)))
        ∙ digits_byte 10 (a ∷ b ∷ word) some all small

pair_begins : (space high low : ℕ) (rest : List ℕ) → is_space space ≡ true → digit_of high < 16 → digit_of low < 16 → ends_here rest ≡ true →
    BeginsByte hex_byte_of (space ∷ high ∷ low ∷ rest) (digit_of high * 16 + digit_of low) rest
pair_begins space high low rest s first second ends =
    let text : List ℕ = high ∷ low ∷ rest in
    let word : List ℕ = high ∷ low ∷ [] in
    let value : value_behind 16 0 word ≡ digit_of high * 16 + digit_of low = omega arith in
    let all = digits_taken 16 2 text (omega arith) digits in
    record {
      word = word;
      cut = digits_first 16 space 2 text (omega arith) s (omega arith) (omega arith) digits ends;
      is = hex_is word (omega arith) all (omega (arith, value, first, second)) ∙ ap Some value;
      shorter = omega arith;
    }
  where
    digits : (k : ℕ) → k < 2 → is_digit 16 (get_or (high ∷ low ∷ rest) k 0) ≡ true
    digits zero h = lt-ltb (digit_of high) 16 first
    digits (suc zero) h = lt-ltb (digit_of low) 16 second
    digits (suc (suc k)) h = absurd (omega arith)

pub hex_begins : (line : List ℕ) → 3 ≤ length line → is_space (get_or line 0 0) ≡ true → digit_of (get_or line 1 0) < 16 → digit_of (get_or line 2 0) < 16 →
    ends_here (take (length line - 3) (drop 3 line)) ≡ true →
    BeginsByte hex_byte_of line (digit_of (get_or line 1 0) * 16 + digit_of (get_or line 2 0)) (take (length line - 3) (drop 3 line))
hex_begins [] h s first second ends = absurd (omega arith)
hex_begins (a ∷ []) h s first second ends = absurd (omega arith)
hex_begins (a ∷ b ∷ []) h s first second ends = absurd (omega arith)
hex_begins (a ∷ b ∷ c ∷ rest) h s first second ends =
    let count : length (a ∷ b ∷ c ∷ rest) - 3 ≡ length rest = omega arith in
    let all : take (length (a ∷ b ∷ c ∷ rest) - 3) rest ≡ rest = ap (λ n. take n rest) count ∙ take-length rest in
    subst (λ x. BeginsByte hex_byte_of (a ∷ b ∷ c ∷ rest) (digit_of b * 16 + digit_of c) x) (sym all)
    (pair_begins a b c rest s first second (subst (λ x. ends_here x ≡ true) all ends))

decimal_begins : (space n : ℕ) (text : List ℕ) → is_space space ≡ true → 0 < n → n ≤ length text → ((k : ℕ) → k < n → is_digit 10 (get_or text k 0) ≡ true) →
    value_behind 10 0 (take n text) < 256 → (1 < n → get_or text 0 0 ≢ 48) → ends_here (drop n text) ≡ true →
    BeginsByte byte_of (space ∷ text) (value_behind 10 0 (take n text)) (drop n text)
decimal_begins space n text s some h digits small high ends =
    let all = digits_taken 10 n text h digits in
    record {
      word = take n text;
      cut = digits_first 10 space n text (omega arith) s some h digits ends;
      is = decimal_is (take n text) (some_taken n text some h) all small (first_taken n text high);
      shorter = shorter_drop n text;
    }
  where
    some_taken : (n : ℕ) (text : List ℕ) → 0 < n → n ≤ length text → 0 < length (take n text)
    some_taken zero text some h = absurd (omega arith)
    some_taken (suc n) [] some h = absurd (omega arith)
    some_taken (suc n) (byte ∷ text) some h = omega arith

    first_taken : (n : ℕ) (text : List ℕ) → (1 < n → get_or text 0 0 ≢ 48) → 1 < length (take n text) → get_or (take n text) 0 0 ≢ 48
    first_taken zero text high long = absurd (omega arith)
    first_taken (suc n) [] high long = absurd (omega arith)
    first_taken (suc zero) (byte ∷ text) high long = absurd (omega arith)
    first_taken (suc (suc n)) (byte ∷ text) high long = high (omega arith)

    shorter_drop : (n : ℕ) (text : List ℕ) → length (drop n text) < length (space ∷ text)
    shorter_drop zero text = omega arith
    shorter_drop (suc n) [] = omega arith
    shorter_drop (suc n) (byte ∷ text) = omega (arith, shorter_drop n text)

-- digits that are not octal
no_zero : (byte : ℕ) → digit_of byte ≢ 0 → byte ≢ 48
no_zero byte some same = some (ap digit_of same)

digits_more : (byte : ℕ) (text : List ℕ) (n : ℕ) → digit_of byte < 10 → ((k : ℕ) → k < n → is_digit 10 (get_or text k 0) ≡ true) → (k : ℕ) → k < suc n → is_digit 10 (get_or (byte ∷ text) k 0) ≡ true
digits_more byte text n first more zero below = lt-ltb (digit_of byte) 10 first
digits_more byte text n first more (suc k) below = more k (omega arith)

-- no digit yet
no_digits : (text : List ℕ) (k : ℕ) → k < 0 → is_digit 10 (get_or text k 0) ≡ true
no_digits text k below = absurd (omega arith)

-- all of what is left after digits
all_left : (rest : List ℕ) (n : ℕ) → n ≡ length rest → take n rest ≡ rest
all_left rest n same = ap (λ k. take k rest) same ∙ take-length rest

pub one_begins : (line : List ℕ) → 2 ≤ length line → is_space (get_or line 0 0) ≡ true → digit_of (get_or line 1 0) < 10 → ends_here (take (length line - 2) (drop 2 line)) ≡ true →
    BeginsByte byte_of line (digit_of (get_or line 1 0)) (take (length line - 2) (drop 2 line))
one_begins [] h s ones ends = absurd (omega arith)
one_begins (a ∷ []) h s ones ends = absurd (omega arith)
one_begins (a ∷ b ∷ rest) h s ones ends =
    let all : take (length (a ∷ b ∷ rest) - 2) rest ≡ rest = all_left rest (length (a ∷ b ∷ rest) - 2) (omega arith) in
    let value : value_behind 10 0 (take 1 (b ∷ rest)) ≡ digit_of b = omega arith in
    subst (λ x. BeginsByte byte_of (a ∷ b ∷ rest) (digit_of b) x) (sym all)
    (subst (λ v. BeginsByte byte_of (a ∷ b ∷ rest) v rest) value
    (decimal_begins a 1 (b ∷ rest) s (omega arith) (omega arith) (digits_more b rest 0 ones (no_digits rest)) (omega (arith, value, ones)) (λ more. absurd (omega arith)) (subst (λ x. ends_here x ≡ true) all ends)))

pub two_begin : (line : List ℕ) → 3 ≤ length line → is_space (get_or line 0 0) ≡ true → digit_of (get_or line 1 0) ≢ 0 → digit_of (get_or line 1 0) < 10 → digit_of (get_or line 2 0) < 10 →
    ends_here (take (length line - 3) (drop 3 line)) ≡ true →
    BeginsByte byte_of line (digit_of (get_or line 1 0) * 10 + digit_of (get_or line 2 0)) (take (length line - 3) (drop 3 line))
two_begin [] h s some tens ones ends = absurd (omega arith)
two_begin (a ∷ []) h s some tens ones ends = absurd (omega arith)
two_begin (a ∷ b ∷ []) h s some tens ones ends = absurd (omega arith)
two_begin (a ∷ b ∷ c ∷ rest) h s some tens ones ends =
    let text : List ℕ = b ∷ c ∷ rest in
    let all : take (length (a ∷ b ∷ c ∷ rest) - 3) rest ≡ rest = all_left rest (length (a ∷ b ∷ c ∷ rest) - 3) (omega arith) in
    let value : value_behind 10 0 (take 2 text) ≡ digit_of b * 10 + digit_of c = omega arith in
    subst (λ x. BeginsByte byte_of (a ∷ b ∷ c ∷ rest) (digit_of b * 10 + digit_of c) x) (sym all)
    (subst (λ v. BeginsByte byte_of (a ∷ b ∷ c ∷ rest) v rest) value
    (decimal_begins a 2 text s (omega arith) (omega arith) (digits_more b (c ∷ rest) 1 tens (digits_more c rest 0 ones (no_digits rest)))
    (omega (arith, value, tens, ones)) (λ _. no_zero b some) (subst (λ x. ends_here x ≡ true) all ends)))

pub three_begin : (line : List ℕ) → 4 ≤ length line → is_space (get_or line 0 0) ≡ true → digit_of (get_or line 1 0) ≢ 0 → digit_of (get_or line 1 0) < 10 → digit_of (get_or line 2 0) < 10 →
    digit_of (get_or line 3 0) < 10 → digit_of (get_or line 1 0) * 100 + digit_of (get_or line 2 0) * 10 + digit_of (get_or line 3 0) < 256 → ends_here (take (length line - 4) (drop 4 line)) ≡ true →
    BeginsByte byte_of line (digit_of (get_or line 1 0) * 100 + digit_of (get_or line 2 0) * 10 + digit_of (get_or line 3 0)) (take (length line - 4) (drop 4 line))
three_begin [] h s some hundreds tens ones small ends = absurd (omega arith)
three_begin (a ∷ []) h s some hundreds tens ones small ends = absurd (omega arith)
three_begin (a ∷ b ∷ []) h s some hundreds tens ones small ends = absurd (omega arith)
three_begin (a ∷ b ∷ c ∷ []) h s some hundreds tens ones small ends = absurd (omega arith)
three_begin (a ∷ b ∷ c ∷ d ∷ rest) h s some hundreds tens ones small ends =
    let text : List ℕ = b ∷ c ∷ d ∷ rest in
    let line : List ℕ = a ∷ b ∷ c ∷ d ∷ rest in
    let all : take (length line - 4) rest ≡ rest = all_left rest (length line - 4) (omega arith) in
    let value : value_behind 10 0 (take 3 text) ≡ digit_of b * 100 + digit_of c * 10 + digit_of d = omega arith in
    subst (λ x. BeginsByte byte_of line (digit_of b * 100 + digit_of c * 10 + digit_of d) x) (sym all)
    (subst (λ v. BeginsByte byte_of line v rest) value
    (decimal_begins a 3 text s (omega arith) (omega arith) (digits_more b (c ∷ d ∷ rest) 2 hundreds (digits_more c (d ∷ rest) 1 tens (digits_more d rest 0 ones (no_digits rest))))
    (omega (arith, value, small)) (λ _. no_zero b some) (subst (λ x. ends_here x ≡ true) all ends)))
