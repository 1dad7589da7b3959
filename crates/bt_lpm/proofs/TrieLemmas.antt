-- An LPM trie's answers, as the table has them.
use Rattle.std.proofs.Common.{◌≡◌, ℕ, ◌≤◌, true, false, List, length, is_some, Ok, refl, sym, ap, ◌∙◌, arith}
use Rattle.std.proofs.lemmas.List.Elements.{All-contains}
use Rattle.std.proofs.lemmas.Bool.Decides.{nat_tests}
use Rattle.bt_mapkind.specs.declared.attr.MapAttr.{MapAttr}
use Rattle.bt_mapkind.specs.declared.attr.MapType.TheVariants.{LpmTrie}
use Rattle.bt_mapkind.specs.declared.request.Query.TheVariants.{Lookup}
use Rattle.bt_mapkind.specs.declared.request.MapReply.{MapReply}
use Rattle.bt_mapkind.specs.declared.request.MapReply.TheVariants.{Nothing}
use Rattle.bt_mapkind.specs.Attributes.{IsGoodFor, suits_type}
use Rattle.bt_mapkind.specs.Bytes.{AreBytes}
use Rattle.bt_mapkind.specs.Contents.{ByKey, Entries}
use Rattle.bt_mapkind.specs.Prefix.{has_its_bits, longest_match}
use Rattle.bt_mapkind.specs.Read.{map_read, found}
use Rattle.bt_mapkind.proofs.Stays.{key_fits_of, both_true}
use Rattle.map_table.specs.Table.{Kept}
use Rattle.bt_hash.specs.Held.{IsHeld}
use Rattle.map_trie.specs.Trie.{Prefixes}
use Rattle.bt_lpm.proofs.LongestLemmas.{AreKeys}
use Rattle.bt_lpm.proofs.KeyLemmas.{IsKeyed}

-- ---- sizes
suits : (a : MapAttr) → IsGoodFor LpmTrie a → suits_type LpmTrie a.key_size a.value_size a.flags ≡ true
suits a good = sym (ap (λ kind. suits_type kind a.key_size a.value_size a.flags) good.type) ∙ (both_true _ _ good.limits).1

five_bytes : (a : MapAttr) → IsGoodFor LpmTrie a → 5 ≤ a.key_size
five_bytes a good = grind (arith, nat_tests, suits a good)

pub four_bytes : (a : MapAttr) (key : List ℕ) → IsGoodFor LpmTrie a → length key ≡ a.key_size → 4 ≤ length key
four_bytes a key good size = omega (arith, five_bytes a good, size)

pub are_keys : (a : MapAttr) (t : Kept) (trie : Prefixes) → IsHeld LpmTrie a t → IsKeyed t trie → AreKeys t.entries
are_keys a t trie h k = record {
  long = λ stored value e. four_bytes a stored h.good (h.well.sizes.1 stored value e).key_size;
  bytes = λ stored value e. All-contains AreBytes trie.stored stored k.bytes (k.back stored (ap is_some e));
}

-- ---- questions
pub looked_up : (a : MapAttr) (m : ByKey (List ℕ)) (key : List ℕ) (reply : MapReply) → a.kind ≡ LpmTrie → length key ≡ a.key_size → has_its_bits key ≡ true → reply ≡ found (longest_match m key) → map_read a (Entries m) (Lookup key) ≡ Ok reply
looked_up a m key reply kind size bits is = rw (kind, key_fits_of a key size, bits, is) refl

pub too_long : (a : MapAttr) (m : ByKey (List ℕ)) (key : List ℕ) → a.kind ≡ LpmTrie → length key ≡ a.key_size → has_its_bits key ≡ false → map_read a (Entries m) (Lookup key) ≡ Ok Nothing
too_long a m key kind size bits = rw (kind, key_fits_of a key size, bits) refl
