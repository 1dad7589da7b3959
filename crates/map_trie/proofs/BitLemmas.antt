-- The bits of prefixes: a prefix has its key's first bits, and its bits make a stored prefix.
use Rattle.std.proofs.Common.{◌≡◌, ℕ, zero, suc, ◌+◌, ◌-◌, ◌*◌, ◌/◌, ◌%◌, ◌^◌, ◌<◌, ◌≤◌, min, true, nat_le, List, [], ◌∷◌, ◌++◌, length, get_or, take, refl, sym, ap, ap₂, ◌∙◌, arith, w32, take-append-drop, ◌⊎◌, inl, inr}
use Rattle.std.specs.Int.{to_le_bytes, from_le_bytes}
use Rattle.std.proofs.lemmas.Bool.{cases_lt}
use Rattle.std.proofs.lemmas.Nat.{shr-shr, shl-shr, le_bytes_4}
use Rattle.std.proofs.lemmas.List.{ext_get_or, get_or-drop, get_or_past, length-take-le, length-drop}
use Rattle.std.proofs.lemmas.List.Elements.{All-take}
use Rattle.bt_mapkind.specs.Bytes.{AreBytes}
use Rattle.bt_mapkind.specs.Index.{index_of}
use Rattle.bt_mapkind.specs.Prefix.{high_bits, masked, prefix_length, prefix_data, is_prefix_of}
use Rattle.bt_mapkind.proofs.Keyed.{same_of}
use Rattle.bt_mapkind.proofs.Stays.{both_true}
use Rattle.map_trie.specs.Ways.{bit_of}
use Rattle.map_trie.specs.Trie.{IsStored}

pub bit_low : (key : List ℕ) (i : ℕ) → bit_of key i < 2
unfolding bit_of
bit_low key i = omega arith

-- ---- the bits of a byte
-- its first bits are those of the byte
high_has : (m byte k : ℕ) → k < m → m ≤ 8 → high_bits m byte / 2 ^ (7 - k) % 2 ≡ byte / 2 ^ (7 - k) % 2
high_has m byte k lt le =
    let a : ℕ = 8 - m in
    let c : ℕ = 7 - k - a in
    let whole : 7 - k ≡ a + c = omega arith in
    ap (λ n. high_bits m byte / 2 ^ n % 2) whole
    ∙ ap (λ n. n % 2) (sym (shr-shr (high_bits m byte) a c) ∙ ap (λ n. n / 2 ^ c) (shl-shr (byte / 2 ^ a) a) ∙ shr-shr byte a c)
    ∙ ap (λ n. byte / 2 ^ n % 2) (sym whole)

halves : (x y : ℕ) → x / 2 ≡ y / 2 → x % 2 ≡ y % 2 → x ≡ y
halves x y h b = omega arith

-- and say what they are
tops : (m x y : ℕ) → m ≤ 8 → x < 256 → y < 256 → ((k : ℕ) → k < m → x / 2 ^ (7 - k) % 2 ≡ y / 2 ^ (7 - k) % 2) → x / 2 ^ (8 - m) ≡ y / 2 ^ (8 - m)
tops zero x y le sx sy same = omega arith
tops (suc m) x y le sx sy same =
    let c : ℕ = 7 - m in
    let here : 8 - suc m ≡ c = omega arith in
    let above : 8 - m ≡ c + 1 = omega arith in
    let before : x / 2 ^ (8 - m) ≡ y / 2 ^ (8 - m) = tops m x y (omega arith) sx sy (λ k lt. same k (omega arith)) in
    let half : x / 2 ^ c / 2 ≡ y / 2 ^ c / 2 = shr-shr x c 1 ∙ sym (ap (λ n. x / 2 ^ n) above) ∙ before ∙ ap (λ n. y / 2 ^ n) above ∙ sym (shr-shr y c 1) in
    ap (λ n. x / 2 ^ n) here ∙ halves (x / 2 ^ c) (y / 2 ^ c) half (same m (omega arith)) ∙ sym (ap (λ n. y / 2 ^ n) here)

-- ---- the bytes of a prefix
pub length-masked : (n : ℕ) (bytes : List ℕ) → length (masked n bytes) ≡ length bytes
length-masked n [] = refl
length-masked n (byte ∷ bytes) = ap suc (length-masked (n - 8) bytes)

pub get_or-masked : (n : ℕ) (bytes : List ℕ) (i : ℕ) → i < length bytes → get_or (masked n bytes) i 0 ≡ high_bits (min (n - 8 * i) 8) (get_or bytes i 0)
get_or-masked n [] i within = absurd (omega arith)
get_or-masked n (byte ∷ bytes) zero within = let same : n ≡ n - 8 * 0 = omega arith in ap (λ k. high_bits (min k 8) byte) same
get_or-masked n (byte ∷ bytes) (suc i) within =
    let less : n - 8 - 8 * i ≡ n - 8 * suc i = omega arith in
    get_or-masked (n - 8) bytes i (omega arith) ∙ ap (λ k. high_bits (min k 8) (get_or bytes i 0)) less

data_bit : (key : List ℕ) (i : ℕ) → bit_of key i ≡ get_or (prefix_data key) (i / 8) 0 / 2 ^ (7 - i % 8) % 2
unfolding bit_of
data_bit key i = ap (λ byte. byte / 2 ^ (7 - i % 8) % 2) (sym (get_or-drop 4 key (i / 8) 0))

-- a prefix has the first bits of its key
pub prefix_bits : (key stored : List ℕ) (i : ℕ) → is_prefix_of key stored ≡ true → i < prefix_length stored → i + 32 < 8 * length key → bit_of key i ≡ bit_of stored i
prefix_bits key stored i e lt within =
    let h = both_true (nat_le (prefix_length stored) (prefix_length key)) _ e in
    let tail_is : prefix_data stored ≡ masked (prefix_length stored) (prefix_data key) = same_of _ _ h.1 in
    let inside : i / 8 < length (prefix_data key) = omega (arith, length-drop 4 key) in
    let few : i % 8 < min (prefix_length stored - 8 * (i / 8)) 8 = omega arith in
    let most : min (prefix_length stored - 8 * (i / 8)) 8 ≤ 8 = omega arith in
    data_bit key i
    ∙ sym (high_has _ (get_or (prefix_data key) (i / 8) 0) (i % 8) few most)
    ∙ ap (λ byte. byte / 2 ^ (7 - i % 8) % 2) (sym (get_or-masked (prefix_length stored) (prefix_data key) (i / 8) inside) ∙ ap (λ l. get_or l (i / 8) 0) (sym tail_is))
    ∙ sym (data_bit stored i)

-- ---- a stored prefix by its bits
four : (xs : List ℕ) → 4 ≤ length xs → index_of xs ≡ from_le_bytes w32 (take 4 xs)
unfolding index_of
four [] long = absurd (omega arith)
four (a ∷ []) long = absurd (omega arith)
four (a ∷ b ∷ []) long = absurd (omega arith)
four (a ∷ b ∷ c ∷ []) long = absurd (omega arith)
four (a ∷ b ∷ c ∷ d ∷ xs) long = refl

below_256 : (xs : List ℕ) → AreBytes xs → (i : ℕ) → get_or xs i 0 < 256
below_256 xs bytes i = cases (cases_lt i (length xs))
  where
    cases : (i < length xs) ⊎ (length xs ≤ i) → get_or xs i 0 < 256
    cases (inl within) = bytes i 0 within
    cases (inr past) = omega (arith, get_or_past xs i 0 past)

pub head_of : (xs : List ℕ) → 4 ≤ length xs → AreBytes xs → to_le_bytes w32 (prefix_length xs) ≡ take 4 xs
head_of xs long bytes = le_bytes_4 (take 4 xs) (index_of xs) (length-take-le 4 xs long) (below_256 (take 4 xs) (All-take (λ byte. byte < 256) 4 xs bytes)) (four xs long)

pub same_prefix : (x y : List ℕ) → IsStored x → IsStored y → length x ≡ length y → prefix_length x ≡ prefix_length y → ((i : ℕ) → i < prefix_length x → bit_of x i ≡ bit_of y i) → x ≡ y
same_prefix x y sx sy sizes lengths bits =
    sym (take-append-drop 4 x)
    ∙ ap₂ (λ (a b : List ℕ). a ++ b)
    (sym (head_of x (omega (arith, sx.bits)) sx.bytes) ∙ ap (to_le_bytes w32) lengths ∙ head_of y (omega (arith, sy.bits)) sy.bytes)
    (ext_get_or 0 (prefix_data x) (prefix_data y) (omega (arith, length-drop 4 x, length-drop 4 y)) each)
    ∙ take-append-drop 4 y
  where
    long : ℕ
    long = prefix_length x

    -- the bits of one byte
    byte_bits : (i k : ℕ) → k < min (long - 8 * i) 8 → get_or (prefix_data x) i 0 / 2 ^ (7 - k) % 2 ≡ get_or (prefix_data y) i 0 / 2 ^ (7 - k) % 2
    byte_bits i k lt =
        let at : (8 * i + k) / 8 ≡ i = omega arith in
        let in_byte : (8 * i + k) % 8 ≡ k = omega arith in
        ap₂ (λ j m. get_or (prefix_data x) j 0 / 2 ^ (7 - m) % 2) (sym at) (sym in_byte)
        ∙ sym (data_bit x (8 * i + k)) ∙ bits (8 * i + k) (omega arith) ∙ data_bit y (8 * i + k)
        ∙ ap₂ (λ j m. get_or (prefix_data y) j 0 / 2 ^ (7 - m) % 2) at in_byte

    each : (i : ℕ) → i < length (prefix_data x) → get_or (prefix_data x) i 0 ≡ get_or (prefix_data y) i 0
    each i within =
        let m : ℕ = min (long - 8 * i) 8 in
        let inside : i < length (prefix_data y) = omega (arith, length-drop 4 x, length-drop 4 y) in
        let most : m ≤ 8 = omega arith in
        let bytes_x : get_or (prefix_data x) i 0 < 256 = rw (get_or-drop 4 x i 0) (below_256 x sx.bytes (4 + i)) in
        let bytes_y : get_or (prefix_data y) i 0 < 256 = rw (get_or-drop 4 y i 0) (below_256 y sy.bytes (4 + i)) in
        let top : get_or (prefix_data x) i 0 / 2 ^ (8 - m) ≡ get_or (prefix_data y) i 0 / 2 ^ (8 - m) = tops m _ _ most bytes_x bytes_y (byte_bits i) in
        sym (ap (λ l. get_or l i 0) sx.masked) ∙ get_or-masked long (prefix_data x) i within
        ∙ ap (λ n. n * 2 ^ (8 - m)) top
        ∙ sym (ap (λ n. get_or (masked n (prefix_data y)) i 0) (sym lengths) ∙ get_or-masked long (prefix_data y) i inside)
        ∙ ap (λ l. get_or l i 0) sy.masked
