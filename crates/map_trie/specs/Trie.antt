-- What a trie of prefixes keeps, and what contracts see of it.
use Rattle.std.specs.Prelude.{◌≡◌, ◌≢◌, ◌+◌, ◌*◌, ◌-◌, ◌<◌, ◌≤◌, ◌^◌, ℕ, true, if◌then◌else◌, List, [], length, slice_index, slice_index_or, All, refl}
use Rattle.std.specs.List.{Contains}
use Rattle.std.specs.Coded.{Coded, code_by, coded×, coded_ℕ, coded_list}
use Rattle.bt_mapkind.specs.Bytes.{AreBytes}
use Rattle.bt_mapkind.specs.Prefix.{masked, prefix_length, prefix_data, is_prefix_of}
use Rattle.map_trie.specs.Ways.{bit_of, IsLinked, IsUnder}

-- a prefix as it is stored: it has its bits, and those past them are zero
pub record IsStored (key : List ℕ) : Type 0 where
  pub size : length key ≤ 260
  pub bits : prefix_length key + 32 ≤ 8 * length key
  pub masked : masked (prefix_length key) (prefix_data key) ≡ prefix_data key
  pub bytes : AreBytes key

-- the prefix of a node: the first is number 1
abbrev pub key_of : List (List ℕ) → ℕ → List ℕ
key_of keys node = slice_index_or keys (node - 1) []

-- so many nodes with different prefixes, all in their places but one that is apart (0: none is)
pub record IsTrie (count : ℕ) (links : List ℕ) (keys : List (List ℕ)) (apart : ℕ) : Type 0 where
  pub linked : IsLinked (length keys) count (slice_index links) (λ node. bit_of (key_of keys node)) (λ node. prefix_length (key_of keys node)) apart
  pub few : length keys < 2 ^ 32
  pub root : length links ≡ 2 * length keys + 3
  pub stored : (node : ℕ) → 0 < node → node ≤ count → IsStored (key_of keys node)
  pub alike : (node other : ℕ) → 0 < node → node ≤ length keys → 0 < other → other ≤ length keys → length (key_of keys node) ≡ length (key_of keys other)
  pub distinct : (node other : ℕ) → 0 < node → node ≤ count → 0 < other → other ≤ count → key_of keys node ≡ key_of keys other → node ≡ other

-- how much a prefix is worth to a key: one more than its bits, if it matches
abbrev pub worth : List ℕ → List ℕ → ℕ
worth key stored = if is_prefix_of key stored then prefix_length stored + 1 else 0

-- a node is in its place and has a key
pub record IsThere (links : List ℕ) (keys : List (List ℕ)) (key : List ℕ) : Type 0 where
  pub count : ℕ
  pub apart : ℕ
  pub trie : IsTrie count links keys apart
  pub node : ℕ
  pub some : 0 < node
  pub within : node ≤ count
  pub other : node ≢ apart
  pub is : key_of keys node ≡ key

-- a link leads to the node of a key
pub record LeadsTo (links : List ℕ) (keys : List (List ℕ)) (key : List ℕ) (at : ℕ) : Type 0 where
  pub within : at < length links
  pub some : 0 < slice_index links at
  pub is : key_of keys (slice_index links at) ≡ key

-- a link to a node without links, so far below another link on the node's own way
pub record IsLeaf (links : List ℕ) (keys : List (List ℕ)) (top at : ℕ) : Type 0 where
  pub within : at < length links
  pub some : 0 < slice_index links at
  pub left : slice_index links (2 * slice_index links at) ≡ 0
  pub right : slice_index links (2 * slice_index links at + 1) ≡ 0
  pub down : ℕ
  pub under : IsUnder (2 * length keys + 2) (slice_index links) (λ node. bit_of (key_of keys node)) (λ node. prefix_length (key_of keys node)) top (slice_index links at) down

-- no prefix is worth more to a key than so much, and one is worth it if it is not 0
pub record IsMost (count : ℕ) (keys : List (List ℕ)) (key : List ℕ) (best : ℕ) : Type 0 where
  pub most : (node : ℕ) → 0 < node → node ≤ count → worth key (key_of keys node) ≤ best
  pub from : 0 < best → (node : ℕ) × (0 < node) × (node ≤ count) × (worth key (key_of keys node) ≡ best)

-- the prefixes; for how many there is room, and how many bytes each has
pub record Prefixes : Type 0 where
  pub stored : List (List ℕ)
  pub capacity : ℕ
  pub key_size : ℕ

abbrev pub prefixes_code : Coded Prefixes
prefixes_code =
    code_by (List (List ℕ) × (ℕ × ℕ)) (coded× (coded_list (coded_list coded_ℕ)) (coded× coded_ℕ coded_ℕ))
    (λ p. (p.stored, (p.capacity, p.key_size))) (λ p. record { stored = p.0; capacity = p.1.0; key_size = p.1.1 }) (λ _. refl)

-- what a set of prefixes keeps
pub record IsKept (len key_size : ℕ) (links : List ℕ) (keys : List (List ℕ)) : Type 0 where
  pub trie : IsTrie len links keys 0
  pub sizes : All (λ key. length key ≡ key_size) keys
  pub small : key_size ≤ 260

-- the longest prefix of a key among some has so many bits
pub record IsLongest (stored : List (List ℕ)) (key : List ℕ) (bits : ℕ) : Type 0 where
  pub best : List ℕ
  pub there : Contains stored best
  pub matches : is_prefix_of key best ≡ true
  pub is : prefix_length best ≡ bits
  pub longest : All (λ other. is_prefix_of key other ≡ true → prefix_length other ≤ bits) stored

-- prefixes without one of them
pub record IsWithout (all : List (List ℕ)) (key : List ℕ) (others : List (List ℕ)) : Type 0 where
  pub count : length others + 1 ≡ length all
  pub from : (other : List ℕ) → Contains others other → Contains all other × (other ≢ key)
  pub kept : (other : List ℕ) → Contains all other → other ≢ key → Contains others other
