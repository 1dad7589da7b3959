-- The prefixes of a key: their lengths, their tail, and that each stored prefix which matches is one of them.
use Rattle.std.proofs.Common.{◌≡◌, ℕ, ◌^◌, ◌<◌, ◌≤◌, true, ◌&&◌, nat_le, List, ◌++◌, length, refl, sym, ap₂, ◌∙◌, arith, w32, take-append-drop}
use Rattle.std.specs.Int.{to_le_bytes, from_le_bytes}
use Rattle.std.proofs.lemmas.Bool.Decides.{nat_tests}
use Rattle.std.proofs.lemmas.Nat.{from_le_bytes-to_le_bytes_4}
use Rattle.bt_mapkind.specs.Index.{index_of}
use Rattle.bt_mapkind.specs.Prefix.{masked, prefix_length, prefix_data, is_same, is_prefix_of}
use Rattle.bt_mapkind.proofs.Keyed.{same_of, is_same-itself}
use Rattle.bt_mapkind.proofs.Stays.{both_true, and_true}
use Rattle.map_trie.proofs.BitLemmas.{head_of}
use Rattle.bt_lpm.specs.Prefixes.{prefix_of}
use Rattle.bt_mapkind.specs.Bytes.{AreBytes}

-- ---- a prefix by its length
head_only : (n : ℕ) (tail : List ℕ) → index_of (to_le_bytes w32 n ++ tail) ≡ from_le_bytes w32 (to_le_bytes w32 n)
unfolding index_of
head_only n tail = refl

pub length_of-prefix_of : (key : List ℕ) (bits : ℕ) → bits < 2 ^ 32 → prefix_length (prefix_of key bits) ≡ bits
unfolding prefix_of
length_of-prefix_of key bits small = head_only bits (masked bits (prefix_data key)) ∙ from_le_bytes-to_le_bytes_4 bits small

pub data_of-prefix_of : (key : List ℕ) (bits : ℕ) → prefix_data (prefix_of key bits) ≡ masked bits (prefix_data key)
unfolding prefix_of
data_of-prefix_of key bits = refl

-- it matches the key
pub prefix_of-matches : (key : List ℕ) (bits : ℕ) → bits < 2 ^ 32 → bits ≤ prefix_length key → is_prefix_of key (prefix_of key bits) ≡ true
prefix_of-matches key bits small le =
    let long : prefix_length (prefix_of key bits) ≡ bits = length_of-prefix_of key bits small in
    let shorter : nat_le bits (prefix_length key) ≡ true = grind (arith, nat_tests) in
    ap₂ (λ n tail. nat_le n (prefix_length key) && is_same tail (masked n (prefix_data key))) long (data_of-prefix_of key bits)
    ∙ and_true _ _ shorter (is_same-itself (masked bits (prefix_data key)))

-- what a stored prefix that matches a key is
pub record Matches (key stored : List ℕ) : Type 0 where
  pub length_within : prefix_length stored ≤ prefix_length key
  pub is : stored ≡ prefix_of key (prefix_length stored)

pub matches : (key stored : List ℕ) → 4 ≤ length stored → AreBytes stored → is_prefix_of key stored ≡ true → Matches key stored
unfolding prefix_of
matches key stored long bytes e =
    let h = both_true (nat_le (prefix_length stored) (prefix_length key)) _ e in
    record {
      length_within = grind (arith, nat_tests, h.0);
      is = sym (take-append-drop 4 stored) ∙ ap₂ (λ head tail. head ++ tail) (sym (head_of stored long bytes)) (same_of _ _ h.1);
    }
