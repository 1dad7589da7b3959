-- The line that takes a change out, as it is read.
use Rattle.std.proofs.Common.{◌≡◌, ◌≢◌, ℕ, ◌+◌, ◌-◌, ◌*◌, ◌^◌, ◌<◌, ◌≤◌, true, false, cond, List, [], ◌∷◌, ◌++◌, length, drop, get_or, refl, sym, ◌∙◌, ap, subst, arith, suc, zero, Some, None, Ok, Err}
use Rattle.std.specs.Prelude.{codes, decimal, filter, ◌==◌, ◌&&◌, ◌||◌, nat_eq, nat_le}
use Rattle.std.specs.Int.{IsInRange}
use Rattle.std.specs.List.{AllByRecursion, list_all, slice_split, onto_first}
use Rattle.std.specs.Option.{option_map}
use Rattle.std.proofs.lemmas.Bool.{and_from, eqb-true, le-leb, le-ltb, lt-ltb, ne_eqb}
use Rattle.std.proofs.lemmas.Fmt.{decimal_digit, decimal_nonempty, digits_decimal, digits_value-decimal, first_decimal, length-decimal-le}
use Rattle.std.proofs.lemmas.Str.Parse.{IsDigitsTest, FoldsDigits, IsNumeralModel, numerals_by_fold}
use Rattle.std.proofs.Math.Bool.{and-false}
use Rattle.console_operand.specs.Word.{is_space, before_comment, has_bytes, words}
use Rattle.console_operand.specs.Number.{digit_of, is_between, is_digit, value_behind, numeral_of, begins, below, long_number_of}
use Rattle.console_operand.specs.Automaton.{outcome, onward}
use Rattle.bt_syntax.specs.Steps.{step, finish, told, words_read, line_read}
use Rattle.bt_syntax.specs.declared.command.Command.TheVariants as c
use Rattle.bt_syntax.specs.declared.command.State.TheVariants as s
use Rattle.bt_syntax.specs.declared.fault.SyntaxFault.TheVariants.{TooLong}
use Rattle.bt_syntax.specs.declared.journal.JournalCommand.TheVariants as command
use Rattle.bt_syntax.specs.declared.journal.JournalState.TheVariants as j
use Rattle.bt_console.specs.Lines.{has_any, takes_memory}
use Rattle.kept_host.specs.Taking.{taking_line}

-- ---- the digits of a number
digit_in : (byte : ℕ) → IsInRange 48 57 byte → digit_of byte ≡ byte - 48
digit_in byte h = ap (λ t. cond t (byte - 48) (cond (is_between 97 102 byte) (byte - 87) (cond (is_between 65 70 byte) (byte - 55) 16))) (and_from (nat_le 48 byte) (nat_le byte 57) (le-leb 48 byte h.0) (le-leb byte 57 h.1))

abbrev AreDigits : List ℕ → Type 0
AreDigits digits = AllByRecursion (IsInRange 48 57) digits

tests : IsDigitsTest AreDigits
tests = record { empty = tt; parts = λ byte bytes h. h; more = λ byte bytes h hs. (h, hs) }

folds : FoldsDigits (value_behind 10)
folds = record { empty = λ n. refl; more = λ n byte bytes h. ap (λ d. value_behind 10 (n * 10 + d) bytes) (digit_in byte h) }

own : IsNumeralModel AreDigits (value_behind 10 0)
own = numerals_by_fold AreDigits tests (value_behind 10) folds

ten : (byte : ℕ) → IsInRange 48 57 byte → is_digit 10 byte ≡ true
ten byte h = let small : byte - 48 < 10 = omega (arith, h.0, h.1) in lt-ltb (digit_of byte) 10 (subst (λ d. d < 10) (sym (digit_in byte h)) small)

all_ten : (digits : List ℕ) → AreDigits digits → list_all (is_digit 10) digits ≡ true
all_ten [] h = refl
all_ten (byte ∷ bytes) h = and_from (is_digit 10 byte) (list_all (is_digit 10) bytes) (ten byte h.0) (all_ten bytes h.1)

-- ---- the number that they spell
no_x : (byte : ℕ) → IsInRange 48 57 byte → nat_eq 120 byte ≡ false
no_x byte h = ne_eqb 120 byte (λ e. omega (arith, h.0, h.1, e))

no_0x : (digits : List ℕ) → AreDigits digits → begins digits (codes "0x") ≡ false
no_0x [] h = refl
no_0x (a ∷ []) h = and-false (nat_eq 48 a)
no_0x (a ∷ b ∷ digits) h = ap (λ t. nat_eq 48 a && (t && true)) (no_x b h.1.0) ∙ and-false (nat_eq 48 a)

in_ten : (digits : List ℕ) → 0 < length digits → AreDigits digits → value_behind 10 0 digits < 2 ^ 64 → below (2 ^ 64) (numeral_of 10 digits) ≡ Some (value_behind 10 0 digits)
in_ten [] some h small = absurd (omega arith)
in_ten (byte ∷ bytes) some h small =
    ap (λ b. below (2 ^ 64) (cond b (Some (value_behind 10 0 (byte ∷ bytes))) None)) (all_ten (byte ∷ bytes) h)
    ∙ ap (λ b. cond b (Some (value_behind 10 0 (byte ∷ bytes))) None) (lt-ltb (value_behind 10 0 (byte ∷ bytes)) (2 ^ 64) small)

number_is : (digits : List ℕ) → 0 < length digits → AreDigits digits → value_behind 10 0 digits < 2 ^ 64 → (1 < length digits → get_or digits 0 0 ≢ 48) → long_number_of digits ≡ Some (value_behind 10 0 digits)
number_is digits some h small high =
    ap (λ t. below (2 ^ 64) (cond t (numeral_of 16 (drop 2 digits)) (cond (begins digits (codes "0")) (numeral_of 8 digits) (numeral_of 10 digits)))) (no_0x digits h)
    ∙ by digits some h small high
  where
    by : (digits : List ℕ) → 0 < length digits → AreDigits digits → value_behind 10 0 digits < 2 ^ 64 → (1 < length digits → get_or digits 0 0 ≢ 48) →
        below (2 ^ 64) (cond (begins digits (codes "0")) (numeral_of 8 digits) (numeral_of 10 digits)) ≡ Some (value_behind 10 0 digits)
    by [] some h small high = absurd (omega arith)
    by (a ∷ []) some h small high =
        elim (nat_eq 48 a) as (λ t. nat_eq 48 a ≡ t → below (2 ^ 64) (cond (t && true) (numeral_of 8 (a ∷ [])) (numeral_of 10 (a ∷ []))) ≡ Some (value_behind 10 0 (a ∷ []))) [
          | true ↦ λ e. subst (λ x. below (2 ^ 64) (numeral_of 8 (x ∷ [])) ≡ Some (value_behind 10 0 (x ∷ []))) (eqb-true 48 a e) refl
          | false ↦ λ _. in_ten (a ∷ []) some h small
        ] refl
    by (a ∷ b ∷ digits) some h small high =
        ap (λ t. below (2 ^ 64) (cond (t && true) (numeral_of 8 (a ∷ b ∷ digits)) (numeral_of 10 (a ∷ b ∷ digits)))) (ne_eqb 48 a (λ e. high (omega arith) (sym e)))
        ∙ in_ten (a ∷ b ∷ digits) some h small

-- no zero leads
no_zero : (n : ℕ) → n < 2 ^ 64 → 1 < length (decimal n) → get_or (decimal n) 0 0 ≢ 48
no_zero zero small long = let one : length (decimal 0) ≡ 1 = ap length (decimal_digit 0 (omega arith)) in absurd (omega (arith, one, long))
no_zero (suc n) small long = let high = first_decimal (suc n) (omega arith) small in λ e. omega (arith, high, e)

spelled : (n : ℕ) → n < 2 ^ 64 → long_number_of (decimal n) ≡ Some n
spelled n small =
    let value : value_behind 10 0 (decimal n) ≡ n = digits_value-decimal own n small in
    number_is (decimal n) (decimal_nonempty n small) (digits_decimal own n small) (subst (λ v. v < 2 ^ 64) (sym value) small) (no_zero n small) ∙ ap Some value

-- ---- the words
no_comment : (digits : List ℕ) → AreDigits digits → before_comment digits ≡ digits
no_comment [] h = refl
no_comment (byte ∷ bytes) h =
    ap (λ t. cond t [] (byte ∷ before_comment bytes)) (ne_eqb byte 35 (λ e. omega (arith, h.0.0, e))) ∙ ap (λ rest. byte ∷ rest) (no_comment bytes h.1)

no_space : (byte : ℕ) → IsInRange 48 57 byte → is_space byte ≡ false
no_space byte h = ap (λ t. t || (byte == 9)) (ne_eqb byte 32 (λ e. omega (arith, h.0, e))) ∙ ne_eqb byte 9 (λ e. omega (arith, h.0, e))

one_part : (digits : List ℕ) → AreDigits digits → slice_split is_space digits ≡ digits ∷ []
one_part [] h = refl
one_part (byte ∷ bytes) h =
    ap (λ t. cond t ([] ∷ slice_split is_space bytes) (onto_first byte (slice_split is_space bytes))) (no_space byte h.0) ∙ ap (onto_first byte) (one_part bytes h.1)

kept_part : (digits : List ℕ) → 0 < length digits → filter has_bytes (digits ∷ []) ≡ digits ∷ []
kept_part [] some = absurd (omega arith)
kept_part (byte ∷ bytes) some = refl

words_with : (digits : List ℕ) → 0 < length digits → AreDigits digits → words (codes "journal without " ++ digits) ≡ codes "journal" ∷ codes "without" ∷ digits ∷ []
words_with digits some h =
    ap (λ text. codes "journal" ∷ codes "without" ∷ filter has_bytes (slice_split is_space text)) (no_comment digits h)
    ∙ ap (λ parts. codes "journal" ∷ codes "without" ∷ filter has_bytes parts) (one_part digits h)
    ∙ ap (λ parts. codes "journal" ∷ codes "without" ∷ parts) (kept_part digits some)

taking_words : (serial : ℕ) → serial < 2 ^ 64 → words (taking_line serial) ≡ codes "journal" ∷ codes "without" ∷ decimal serial ∷ []
taking_words serial small = words_with (decimal serial) (decimal_nonempty serial small) (digits_decimal own serial small)

-- ---- the line
short : (serial : ℕ) → serial < 2 ^ 64 → length (taking_line serial) ≤ 131072
short serial small = let most = length-decimal-le 20 serial (omega arith) (omega (arith, small)) small in omega (arith, most)

pub taking_read : (serial : ℕ) → serial < 2 ^ 64 → line_read (taking_line serial) ≡ Ok (Some (c.Journal (command.Without serial)))
taking_read serial small =
    ap (λ t. cond t (Err TooLong) (words_read (words (taking_line serial)))) (le-ltb 131072 (length (taking_line serial)) (short serial small))
    ∙ ap words_read (taking_words serial small)
    ∙ ap (λ o. told (onward (option_map s.Journal (option_map j.Done (option_map command.Without o))) 3 (λ next. outcome step finish next 3 []))) (spelled serial small)

pub taking_takes_memory : (serial : ℕ) → serial < 2 ^ 64 → takes_memory (taking_line serial) ≡ true
taking_takes_memory serial small =
    and_from (nat_le (length (taking_line serial)) 131072) (has_any (words (taking_line serial))) (le-leb (length (taking_line serial)) 131072 (short serial small)) (ap has_any (taking_words serial small))
