-- Whether bytes are the first bits of others, and zeros, byte by byte.
use Rattle.std.proofs.Common.{◌≡◌, ◌≢◌, ℕ, ◌+◌, ◌-◌, ◌*◌, ◌<◌, ◌≤◌, min, Bool, true, false, List, length, get_or, take, refl, sym, ap, ap₂, ◌∙◌, arith}
use Rattle.std.proofs.lemmas.List.{take_more_same, take_all}
use Rattle.bt_mapkind.specs.Prefix.{high_bits, masked, is_same}
use Rattle.bt_mapkind.proofs.Keyed.{same_of, is_same-itself}
use Rattle.map_trie.proofs.BitLemmas.{length-masked, get_or-masked}

pub differ_at : (xs ys : List ℕ) (i : ℕ) → get_or xs i 0 ≢ get_or ys i 0 → false ≡ is_same xs ys
differ_at xs ys i other = cases (is_same xs ys) refl
  where
    cases : (b : Bool) → is_same xs ys ≡ b → false ≡ b
    cases true e = absurd (other (ap (λ l. get_or l i 0) (same_of xs ys e)))
    cases false e = refl

pub same_more : (xs bytes : List ℕ) (bits i left x byte high : ℕ) → length xs ≡ length bytes → i < length xs → left ≡ bits - 8 * i → x ≡ get_or xs i 0 → byte ≡ get_or bytes i 0 → high ≡ high_bits (min left 8) byte → x ≡ high → take i xs ≡ take i (masked bits bytes)
    → take (i + 1) xs ≡ take (i + 1) (masked bits bytes)
same_more xs bytes bits i left x byte high sizes within left_is x_is byte_is high_is same before =
    let inside : i < length bytes = omega arith in
    let inside_too : i < length (masked bits bytes) = omega (arith, length-masked bits bytes) in
    take_more_same xs (masked bits bytes) i 0 within inside_too before
    (sym x_is ∙ same ∙ high_is ∙ ap₂ (λ n b. high_bits (min n 8) b) left_is byte_is ∙ sym (get_or-masked bits bytes i inside))

pub differ_here : (xs bytes : List ℕ) (bits i left x byte high : ℕ) → length xs ≡ length bytes → i < length xs → left ≡ bits - 8 * i → x ≡ get_or xs i 0 → byte ≡ get_or bytes i 0 → high ≡ high_bits (min left 8) byte → x ≢ high
    → false ≡ is_same xs (masked bits bytes)
differ_here xs bytes bits i left x byte high sizes within left_is x_is byte_is high_is other =
    let inside : i < length bytes = omega arith in
    differ_at xs (masked bits bytes) i (λ e. other (x_is ∙ e ∙ get_or-masked bits bytes i inside ∙ sym (high_is ∙ ap₂ (λ n b. high_bits (min n 8) b) left_is byte_is)))

pub same_all : (xs bytes : List ℕ) (bits i : ℕ) → length xs ≡ length bytes → length xs ≤ i → take i xs ≡ take i (masked bits bytes) → true ≡ is_same xs (masked bits bytes)
same_all xs bytes bits i sizes past same =
    let past_too : length (masked bits bytes) ≤ i = omega (arith, length-masked bits bytes) in
    let whole : xs ≡ masked bits bytes = sym (take_all i xs past) ∙ same ∙ take_all i (masked bits bytes) past_too in
    sym (ap (is_same xs) (sym whole) ∙ is_same-itself xs)
