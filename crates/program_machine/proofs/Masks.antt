-- Masks that tell which words hold values.
use Rattle.std.proofs.Common.{◌≡◌, ℕ, zero, suc, ◌<◌, ◌*◌, ◌%◌, ◌^◌, List, [], ◌∷◌, length, get_or, set, replicate, Option, Some, None, inl, inr, refl, sym, ap, ◌∙◌, get_or-set_same, get_or-set_other, arith}
use Rattle.program_machine.specs.Held.{Held}
use Rattle.std.specs.Prelude.{Bool, true, false, ◌&&◌, is_none, bit_and, bit_or, ◌==◌}
use Rattle.std.specs.Int.{bit_at, bit_not, w64}
use Rattle.std.proofs.lemmas.Bool.{cases_eq}
use Rattle.std.proofs.lemmas.Nat.Bits.{bit_at-zero, bit_at_set_same, bit_at_set_other, bit_at_clear_same, bit_at_clear_other}
use Rattle.program_machine.specs.Places.{bit_of, IsMask, paired, kept_by, kept_in}
use Rattle.program_machine.specs.declared.key.Key.{Key}
use Rattle.program_machine.specs.declared.kind.Kind.{Kind}
use Rattle.program_machine.proofs.Pairs.{none_there}

abbrev no_kind : Option Kind
no_kind = None

nothing_there : (n word : ℕ) → get_or (replicate n no_kind) word None ≡ None
nothing_there zero word = refl
nothing_there (suc n) zero = refl
nothing_there (suc n) (suc word) = nothing_there n word

pub none_masked : (n : ℕ) → IsMask 0 (replicate n None)
none_masked n word h = bit_at-zero word ∙ sym (ap (λ (kind : Option Kind). bit_of kind) (nothing_there n word))

-- a word that holds a value now
pub put_masked : (mask word : ℕ) (kinds : List (Option Kind)) (kind : Kind) → IsMask mask kinds → word < 64 → length kinds ≡ 64 → IsMask (bit_or mask (1 * 2 ^ word % 2 ^ 64)) (set kinds word (Some kind))
put_masked mask word kinds kind is within long k below =
    let here : word < length kinds = rw long within in
    elim (cases_eq k word) [
      | inl same ↦ rw same (bit_at_set_same w64 mask word within ∙ sym (ap (λ (o : Option Kind). bit_of o) (get_or-set_same kinds word (Some kind) None here)))
      | inr other ↦
          bit_at_set_other w64 mask word within k other ∙ is k below
          ∙ sym (ap (λ (o : Option Kind). bit_of o) (get_or-set_other kinds word k (Some kind) None other))
    ]

-- and one that holds none
pub clear_masked : (mask word : ℕ) (kinds : List (Option Kind)) → IsMask mask kinds → word < 64 → length kinds ≡ 64 → IsMask (bit_and mask (bit_not w64 (1 * 2 ^ word % 2 ^ 64))) (set kinds word None)
clear_masked mask word kinds is within long k below =
    let here : word < length kinds = rw long within in
    elim (cases_eq k word) [
      | inl same ↦ rw same (bit_at_clear_same w64 mask word within ∙ sym (ap (λ (o : Option Kind). bit_of o) (get_or-set_same kinds word None None here)))
      | inr other ↦
          bit_at_clear_other w64 mask word within k below other ∙ is k below
          ∙ sym (ap (λ (o : Option Kind). bit_of o) (get_or-set_other kinds word k None None other))
    ]

plain_bit : (kind : Option Kind) → (bit_of kind == 0) ≡ is_none kind
plain_bit None = refl
plain_bit (Some kind) = refl

-- the test of a word's bit
pub plain_masked : (mask word : ℕ) (kinds : List (Option Kind)) → IsMask mask kinds → word < 64 → (bit_at mask word == 0) ≡ is_none (get_or kinds word None)
plain_masked mask word kinds is within = ap (λ n. n == 0) (is word within) ∙ plain_bit (get_or kinds word None)

both_true : (a b : Bool) → a ≡ true → b ≡ true → true ≡ (a && b)
both_true true b e f = sym f
both_true false b e f = absurd cc

-- if a mask is 0, no word holds a value
zero_plain : (mask word : ℕ) (kinds : List (Option Kind)) (keys : List Key) → length kinds ≡ 64 → length keys ≡ 64 → IsMask mask kinds → word < 64 → mask ≡ 0 → is_none (kept_in (paired kept_by kinds keys) word) ≡ true
zero_plain mask word kinds keys long keyed is within e =
    none_there kinds keys word (rw long within) (rw keyed within) ∙ sym (plain_masked mask word kinds is within)
    ∙ ap (λ n. bit_at n word == 0) e
    ∙ ap (λ n. n == 0) (bit_at-zero word)

pub both_plain : (mask first last : ℕ) (kinds : List (Option Kind)) (keys : List Key) → length kinds ≡ 64 → length keys ≡ 64 → IsMask mask kinds → first < 64 → last < 64 → mask ≡ 0 → (mask == 0) ≡ (is_none (kept_in (paired kept_by kinds keys) first) && is_none (kept_in (paired kept_by kinds keys) last))
both_plain mask first last kinds keys long keyed is f l e =
    ap (λ n. n == 0) e
    ∙ both_true _ _ (zero_plain mask first kinds keys long keyed is f e) (zero_plain mask last kinds keys long keyed is l e)

no_bit : (kind : Option Kind) → bit_of kind ≡ 0 → kind ≡ None
no_bit None e = refl
no_bit (Some kind) e = absurd (omega (arith, e))

all_nothing : (n : ℕ) (kinds : List (Option Kind)) (keys : List Key) → length kinds ≡ n → length keys ≡ n → ((k : ℕ) → k < n → get_or kinds k None ≡ None) → paired kept_by kinds keys ≡ replicate n None
unfolding paired
all_nothing zero [] [] h i none = refl
all_nothing zero [] (key ∷ keys) h i none = absurd (omega (arith, i))
all_nothing zero (kind ∷ kinds) keys h i none = absurd (omega (arith, h))
all_nothing (suc n) [] keys h i none = absurd (omega (arith, h))
all_nothing (suc n) (kind ∷ kinds) [] h i none = absurd (omega (arith, i))
all_nothing (suc n) (kind ∷ kinds) (key ∷ keys) h i none =
    ap (λ (o : Option Kind). kept_by o key ∷ paired kept_by kinds keys) (none 0 (omega arith))
    ∙ ap (λ (l : List (Option Held)). None ∷ l) (all_nothing n kinds keys (omega (arith, h)) (omega (arith, i)) (λ k below. none (suc k) (omega (arith, below))))

-- if a mask is 0, nothing is kept
pub nothing_masked : (mask : ℕ) (kinds : List (Option Kind)) (keys : List Key) → length kinds ≡ 64 → length keys ≡ 64 → IsMask mask kinds → mask ≡ 0 → paired kept_by kinds keys ≡ replicate 64 None
nothing_masked mask kinds keys long keyed is e =
    all_nothing 64 kinds keys long keyed (λ k below. no_bit (get_or kinds k None) (sym (is k below) ∙ ap (λ n. bit_at n k) e ∙ bit_at-zero k))
