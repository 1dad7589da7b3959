-- The ways through a trie: from the root's link on, a key's bits lead from node to node. Node v has its links at 2 * v and
-- 2 * v + 1, one for each value of the next bit; node 0 is no node, and its links lead back to it.
use Rattle.std.specs.Prelude.{◌≡◌, ◌≢◌, ◌+◌, ◌*◌, ◌/◌, ◌-◌, ◌%◌, ◌^◌, ◌<◌, ◌≤◌, ℕ, zero, suc, List, slice_index}

-- a bit of a key's data, of which the highest of the first byte comes first
unfoldable pub bit_of : List ℕ → ℕ → ℕ
bit_of key index = slice_index key (4 + index / 8) / 2 ^ (7 - index % 8) % 2

-- the link to which so many bits lead
abbrev pub way : (ℕ → ℕ) → ℕ → (ℕ → ℕ) → ℕ → ℕ
way links root bits zero = root
way links root bits (suc depth) = 2 * links (way links root bits depth) + bits depth

-- the way by a node's bits meets it, and no deeper than it has bits
pub record IsPlaced (links : ℕ → ℕ) (root : ℕ) (bits : ℕ → ℕ) (long node : ℕ) : Type 0 where
  pub depth : ℕ
  pub within : depth ≤ long
  pub at : links (way links root bits depth) ≡ node

-- links of so many nodes: each node but one has its place, and that one is apart, without links (0: none is apart)
pub record IsLinked (room count : ℕ) (links : ℕ → ℕ) (bits : ℕ → ℕ → ℕ) (long : ℕ → ℕ) (apart : ℕ) : Type 0 where
  pub few : count ≤ room
  pub low : (node depth : ℕ) → bits node depth < 2
  pub below : (i : ℕ) → links i ≤ count
  pub once : (i j : ℕ) → links i ≡ links j → 0 < links i → i ≡ j
  pub nothing : (i : ℕ) → i ≤ 1 → links i ≡ 0
  pub fresh : (i : ℕ) → 2 * count + 1 < i → i ≤ 2 * room + 1 → links i ≡ 0
  pub off : 0 < apart → (i : ℕ) → links i ≢ apart
  pub bare : (i : ℕ) → 2 * apart ≤ i → i ≤ 2 * apart + 1 → links i ≡ 0
  pub placed : (node : ℕ) → 0 < node → node ≤ count → node ≢ apart → IsPlaced links (2 * room + 2) (bits node) (long node) node

-- one node in the place of another, whose links it gets
pub record Replaces (was is : ℕ → ℕ) (at old new : ℕ) : Type 0 where
  pub here : is at ≡ new
  pub left : is (2 * new) ≡ was (2 * old)
  pub right : is (2 * new + 1) ≡ was (2 * old + 1)
  pub no_left : is (2 * old) ≡ 0
  pub no_right : is (2 * old + 1) ≡ 0
  pub others : (i : ℕ) → i ≢ at → i ≢ 2 * new → i ≢ 2 * new + 1 → i ≢ 2 * old → i ≢ 2 * old + 1 → is i ≡ was i

-- a node so far below the node of another link, on its own way
pub record IsUnder (root : ℕ) (links : ℕ → ℕ) (bits : ℕ → ℕ → ℕ) (long : ℕ → ℕ) (top node down : ℕ) : Type 0 where
  pub above : ℕ
  pub within : above + down ≤ long node
  pub start : way links root (bits node) above ≡ top
  pub end : links (way links root (bits node) (above + down)) ≡ node
