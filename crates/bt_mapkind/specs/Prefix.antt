-- Prefixes of an LPM trie (Documentation/bpf/map_lpm_trie.rst): a key is a prefix length in bits, four bytes with the
-- lowest first, and then data, of which a prefix keeps that many bits, the highest bit of the first byte first.
use Rattle.std.specs.Prelude.{ℕ, ◌-◌, ◌*◌, ◌/◌, ◌^◌, min, Bool, ◌&&◌, nat_le, nat_lt, if◌then◌else◌, List, [], ◌∷◌, ◌++◌, length, take, drop, Option, None, Some}
use Rattle.std.specs.List.{filter}
use Rattle.std.specs.FinMap.{entries}
use Rattle.std.specs.Ordering.{nat_cmp, eq_by_cmp}
use Rattle.std.specs.Cmp.Lexicographic.{slice_cmp}
use Rattle.bt_mapkind.specs.declared.attr.MapAttr.{MapAttr}
use Rattle.bt_mapkind.specs.Attributes.{is_lpm}
use Rattle.bt_mapkind.specs.Contents.{ByKey}
use Rattle.bt_mapkind.specs.Index.{index_of}

-- the same bytes
abbrev pub is_same : List ℕ → List ℕ → Bool
is_same xs ys = eq_by_cmp (slice_cmp nat_cmp) xs ys

-- the first n bits of a byte, the others zero
abbrev pub high_bits : ℕ → ℕ → ℕ
high_bits n byte = (byte / 2 ^ (8 - n)) * 2 ^ (8 - n)

-- the first n bits of bytes, the others zero
abbrev pub masked : ℕ → List ℕ → List ℕ
masked n [] = []
masked n (byte ∷ bytes) = high_bits (min n 8) byte ∷ masked (n - 8) bytes

abbrev pub prefix_length : List ℕ → ℕ
prefix_length key = index_of key

abbrev pub prefix_data : List ℕ → List ℕ
prefix_data key = drop 4 key

-- whether a key has as many bits as its prefix length asks for
abbrev pub has_its_bits : List ℕ → Bool
has_its_bits key = nat_le (prefix_length key) (8 * length (prefix_data key))

-- the key as it is stored: bits past the prefix are zero
abbrev pub stored_prefix : List ℕ → List ℕ
stored_prefix key = take 4 key ++ masked (prefix_length key) (prefix_data key)

-- the key under which an entry of a hash or an LPM trie stands; none for a prefix that is too long
abbrev pub address : MapAttr → List ℕ → Option (List ℕ)
address a key =
    if is_lpm a.kind then (if has_its_bits key then Some (stored_prefix key) else None) else
    Some key

-- whether a stored prefix is one of a key: no longer than the key's, and the same bits
abbrev pub is_prefix_of : List ℕ → List ℕ → Bool
is_prefix_of key stored =
    nat_le (prefix_length stored) (prefix_length key)
    && is_same (prefix_data stored) (masked (prefix_length stored) (prefix_data key))

-- of two entries the one with the longer prefix
abbrev pub longer : List ℕ × List ℕ → Option (List ℕ × List ℕ) → Option (List ℕ × List ℕ)
longer e None = Some e
longer e (Some f) = if nat_lt (prefix_length e.0) (prefix_length f.0) then Some f else Some e

abbrev pub longest : List (List ℕ × List ℕ) → Option (List ℕ × List ℕ)
longest [] = None
longest (e ∷ es) = longer e (longest es)

-- the entry with the longest prefix among all that match a key
abbrev pub longest_match : ByKey (List ℕ) → List ℕ → Option (List ℕ × List ℕ)
longest_match m key = longest (filter (λ e. is_prefix_of key e.0) (entries m))
