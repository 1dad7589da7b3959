-- A prefix as it is stored: storing it again changes nothing, and it is the address of its entry.
use Rattle.std.proofs.Common.{◌≡◌, ℕ, suc, ◌-◌, ◌*◌, ◌/◌, ◌^◌, min, Bool, true, false, if◌then◌else◌, List, [], ◌∷◌, ◌++◌, length, take, drop, Option, Some, None, nat_le, refl, ap, sym, subst, ◌∙◌}
use Rattle.std.proofs.Math.Nat.{mul-div_cancel}
use Rattle.std.proofs.lemmas.Nat.{pow_pos}
use Rattle.bt_mapkind.specs.declared.attr.MapAttr.{MapAttr}
use Rattle.bt_mapkind.specs.Attributes.{is_lpm}
use Rattle.bt_mapkind.specs.Index.{index_of}
use Rattle.bt_mapkind.specs.Prefix.{high_bits, masked, stored_prefix, has_its_bits, address, prefix_length, prefix_data}
use Rattle.bt_mapkind.specs.Exchange.{is_address, is_at}
use Rattle.bt_mapkind.proofs.Keyed.{is_same-itself}

length-masked : (n : ℕ) (bytes : List ℕ) → length (masked n bytes) ≡ length bytes
length-masked n [] = refl
length-masked n (byte ∷ bytes) = ap suc (length-masked (n - 8) bytes)

high_bits_again : (n byte : ℕ) → high_bits n (high_bits n byte) ≡ high_bits n byte
high_bits_again n byte = ap (λ q. q * 2 ^ (8 - n)) (mul-div_cancel (byte / 2 ^ (8 - n)) (pow_pos (8 - n)))

masked_again : (n : ℕ) (bytes : List ℕ) → masked n (masked n bytes) ≡ masked n bytes
masked_again n [] = refl
masked_again n (byte ∷ bytes) = λ i. high_bits_again (min n 8) byte i ∷ masked_again (n - 8) bytes i

-- ---- the parts of a stored prefix
prefix_length-stored : (n : ℕ) (key : List ℕ) → prefix_length (take 4 key ++ masked n (drop 4 key)) ≡ prefix_length key
unfolding index_of
prefix_length-stored n [] = refl
prefix_length-stored n (a ∷ []) = refl
prefix_length-stored n (a ∷ b ∷ []) = refl
prefix_length-stored n (a ∷ b ∷ c ∷ []) = refl
prefix_length-stored n (a ∷ b ∷ c ∷ d ∷ bytes) = refl

prefix_data-stored : (n : ℕ) (key : List ℕ) → prefix_data (take 4 key ++ masked n (drop 4 key)) ≡ masked n (drop 4 key)
prefix_data-stored n [] = refl
prefix_data-stored n (a ∷ []) = refl
prefix_data-stored n (a ∷ b ∷ []) = refl
prefix_data-stored n (a ∷ b ∷ c ∷ []) = refl
prefix_data-stored n (a ∷ b ∷ c ∷ d ∷ bytes) = refl

take-stored : (n : ℕ) (key : List ℕ) → take 4 (take 4 key ++ masked n (drop 4 key)) ≡ take 4 key
take-stored n [] = refl
take-stored n (a ∷ []) = refl
take-stored n (a ∷ b ∷ []) = refl
take-stored n (a ∷ b ∷ c ∷ []) = refl
take-stored n (a ∷ b ∷ c ∷ d ∷ bytes) = refl

length-stored : (n : ℕ) (key : List ℕ) → length (take 4 key ++ masked n (drop 4 key)) ≡ length key
length-stored n [] = refl
length-stored n (a ∷ []) = refl
length-stored n (a ∷ b ∷ []) = refl
length-stored n (a ∷ b ∷ c ∷ []) = refl
length-stored n (a ∷ b ∷ c ∷ d ∷ bytes) = ap (λ k. suc (suc (suc (suc k)))) (length-masked n bytes)

pub has_its_bits-stored : (key : List ℕ) → has_its_bits (stored_prefix key) ≡ has_its_bits key
has_its_bits-stored key =
    let n = prefix_length key in
    ap (λ k. nat_le k (8 * length (prefix_data (stored_prefix key)))) (prefix_length-stored n key)
    ∙ ap (λ bytes. nat_le n (8 * length bytes)) (prefix_data-stored n key)
    ∙ ap (λ k. nat_le n (8 * k)) (length-masked n (drop 4 key))

pub stored_prefix_again : (key : List ℕ) → stored_prefix (stored_prefix key) ≡ stored_prefix key
stored_prefix_again key =
    let n = prefix_length key in
    ap (λ k. take 4 (stored_prefix key) ++ masked k (prefix_data (stored_prefix key))) (prefix_length-stored n key)
    ∙ ap (λ front. front ++ masked n (prefix_data (stored_prefix key))) (take-stored n key)
    ∙ ap (λ bytes. take 4 key ++ masked n bytes) (prefix_data-stored n key)
    ∙ ap (λ bytes. take 4 key ++ bytes) (masked_again n (drop 4 key))

-- ---- the address of an entry
pub record IsAddressOf (a : MapAttr) (key stored : List ℕ) : Type 0 where
  pub stands : is_address a stored ≡ true
  pub key_size : length stored ≡ length key

same_key : (x y : List ℕ) → Some x ≡ Some y → x ≡ y
same_key x y e = cc

none_is_no_key : {P : Type 0} (y : List ℕ) → None ≡ Some y → P
none_is_no_key y e = cc

-- an address by the map's type and by whether the prefix has its bits
of_type : Bool → Bool → List ℕ → Option (List ℕ)
of_type lpm bits key = if lpm then (if bits then Some (stored_prefix key) else None) else Some key

by_type : (lpm bits : Bool) (key stored : List ℕ) → has_its_bits key ≡ bits → of_type lpm bits key ≡ Some stored → (is_at stored (of_type lpm (has_its_bits stored) stored) ≡ true) × (length stored ≡ length key)
unfolding of_type
by_type false bits key stored h e = (ap (λ k. is_at stored (Some k)) (same_key stored stored refl) ∙ is_same-itself stored, ap length (sym (same_key key stored e)))
by_type true false key stored h e = none_is_no_key stored e
by_type true true key stored h e =
    let is : stored_prefix key ≡ stored = same_key _ _ e in
    subst (λ s. (is_at s (of_type true (has_its_bits s) s) ≡ true) × (length s ≡ length key)) is (
      ap (λ b. is_at (stored_prefix key) (of_type true b (stored_prefix key))) (has_its_bits-stored key ∙ h)
          ∙ ap (λ s. is_at (stored_prefix key) (Some s)) (stored_prefix_again key) ∙ is_same-itself (stored_prefix key),
      length-stored (prefix_length key) key,
    )

pub address_stands : (a : MapAttr) (key stored : List ℕ) → address a key ≡ Some stored → IsAddressOf a key stored
unfolding of_type
address_stands a key stored e =
    let h = by_type (is_lpm a.kind) (has_its_bits key) key stored refl e in
    record { stands = h.0; key_size = h.1 }
