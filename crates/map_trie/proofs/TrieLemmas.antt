-- Walks through a trie's links.
use Rattle.std.proofs.Common.{◌≡◌, ◌≢◌, ℕ, ◌+◌, ◌-◌, ◌*◌, ◌<◌, ◌≤◌, Bool, true, false, if◌then◌else◌, max, List, length, set, refl, sym, ap, subst, ◌∙◌, arith, ◌⊎◌, inl, inr, nat_le, get_or-set_same, get_or-set_other, length-set}
use Rattle.std.specs.List.{slice_index}
use Rattle.std.proofs.lemmas.Bool.{cases_lt, cases_eq}
use Rattle.std.proofs.lemmas.Bool.Decides.{nat_tests}
use Rattle.bt_mapkind.proofs.Stays.{both_true}
use Rattle.bt_mapkind.specs.Prefix.{prefix_length, is_prefix_of}
use Rattle.map_trie.specs.Ways.{way, bit_of, IsLinked, IsUnder, Replaces}
use Rattle.map_trie.specs.Trie.{IsTrie, IsThere, IsMost, key_of, worth}
use Rattle.map_trie.proofs.WayLemmas.{earlier, way_next, same_bits}
use Rattle.map_trie.proofs.ReplaceLemmas.{no_loop, replaced}
use Rattle.map_trie.proofs.GrowLemmas.{way_range, ended, further, swapped, further_swapped, deep_swapped}
use Rattle.map_trie.proofs.ShrinkLemmas.{under_itself, under_more, pruned, start_left}
use Rattle.map_trie.proofs.BitLemmas.{bit_low, prefix_bits, same_prefix}

-- the link to which a key's bits lead
abbrev pub way_of : List ℕ → List (List ℕ) → List ℕ → ℕ → ℕ
way_of links keys key depth = way (slice_index links) (2 * length keys + 2) (bit_of key) depth

abbrev pub bits_of : List (List ℕ) → ℕ → ℕ → ℕ
bits_of keys node = bit_of (key_of keys node)

abbrev pub long_of : List (List ℕ) → ℕ → ℕ
long_of keys node = prefix_length (key_of keys node)

-- on the way to the node of a key
pub record IsOnWay (links : List ℕ) (keys : List (List ℕ)) (key : List ℕ) (at depth : ℕ) : Type 0 where
  pub there : way_of links keys key depth ≡ at
  pub place : ℕ
  pub before : depth ≤ place
  pub deep : place ≤ prefix_length key
  pub some : 0 < slice_index links (way_of links keys key place)
  pub found : key_of keys (slice_index links (way_of links keys key place)) ≡ key

-- a node that goes down to its place
pub record IsCarried (count : ℕ) (links : List ℕ) (keys : List (List ℕ)) (carried at depth : ℕ) : Type 0 where
  pub trie : IsTrie count links keys carried
  pub some : 0 < carried
  pub within : carried ≤ count
  pub there : way_of links keys (key_of keys carried) depth ≡ at
  pub deep : depth ≤ prefix_length (key_of keys carried)
  pub real : 1 < at

-- the most that a prefix on the way so far is worth
pub record IsBest (links : List ℕ) (keys : List (List ℕ)) (key : List ℕ) (at depth best : ℕ) : Type 0 where
  pub there : way_of links keys key depth ≡ at
  pub deep : depth ≤ prefix_length key
  pub seen : (k : ℕ) → k < depth → 0 < slice_index links (way_of links keys key k) → worth key (key_of keys (slice_index links (way_of links keys key k))) ≤ best
  pub from : 0 < best → (i : ℕ) × (0 < slice_index links i) × (worth key (key_of keys (slice_index links i)) ≡ best)

module _ (count apart : ℕ) (links : List ℕ) (keys : List (List ℕ)) (t : IsTrie count links keys apart) where
  pub in_range : (key : List ℕ) (depth : ℕ) → way_of links keys key depth < length links
  in_range key depth = cases (way_range (length keys) count apart (slice_index links) (bits_of keys) (long_of keys) t.linked (bit_of key) depth (bit_low key))
    where
      cases : (way_of links keys key depth ≡ 2 * length keys + 2) ⊎ (way_of links keys key depth ≤ 2 * count + 1) → way_of links keys key depth < length links
      cases (inl e) = omega (arith, t.root)
      cases (inr le) = omega (arith, t.root, t.linked.few)

  -- ---- the way to the node of a key
  pub way_some : (key : List ℕ) (at depth : ℕ) → IsOnWay links keys key at depth → 0 < slice_index links at
  way_some key at depth w =
      subst (λ i. 0 < slice_index links i) w.there
      (earlier (length keys) count apart (slice_index links) (bits_of keys) (long_of keys) t.linked (bit_of key) (bit_low key) w.place depth w.before w.some)

  pub way_range_at : (key : List ℕ) (at depth : ℕ) → IsOnWay links keys key at depth → at < length links
  way_range_at key at depth w = subst (λ i. i < length links) w.there (in_range key depth)

  pub way_on : (key : List ℕ) (at depth bit : ℕ) → IsOnWay links keys key at depth → key_of keys (slice_index links at) ≢ key → bit ≡ bit_of key depth → IsOnWay links keys key (2 * slice_index links at + bit) (depth + 1)
  way_on key at depth bit w other is = record {
    there = way_next (slice_index links) (2 * length keys + 2) (bit_of key) depth ∙ ap (λ i. 2 * slice_index links i + bit_of key depth) w.there ∙ ap (λ b. 2 * slice_index links at + b) (sym is);
    place = w.place;
    before = cases (cases_lt depth w.place);
    deep = w.deep;
    some = w.some;
    found = w.found;
  }
    where
      cases : (depth < w.place) ⊎ (w.place ≤ depth) → depth + 1 ≤ w.place
      cases (inl lt) = omega arith
      cases (inr le) =
          let same : w.place ≡ depth = omega (arith, w.before) in
          absurd (other (ap (λ i. key_of keys (slice_index links i)) (sym w.there ∙ ap (way_of links keys key) (sym same)) ∙ w.found))

  pub best_range : (key : List ℕ) (at depth best : ℕ) → IsBest links keys key at depth best → at < length links
  best_range key at depth best b = subst (λ i. i < length links) b.there (in_range key depth)

  pub node_within : (i : ℕ) → slice_index links i ≤ length keys
  node_within i = omega (arith, t.linked.below i, t.linked.few)

  -- ---- a link of a node is not its own
  pub no_own : (at i : ℕ) → 0 < slice_index links at → slice_index links at ≢ apart → 2 * slice_index links at ≤ i → i ≤ 2 * slice_index links at + 1 → at ≢ i
  no_own at i some other from to e =
      let node : ℕ = slice_index links at in
      let p = t.linked.placed node some (t.linked.below at) other in
      let there : way (slice_index links) (2 * length keys + 2) (bits_of keys node) p.depth ≡ at = t.linked.once _ at p.at (omega (arith, p.at)) in
      no_loop (length keys) count apart (slice_index links) (bits_of keys) (long_of keys) t.linked (bits_of keys node) p.depth at node i (t.linked.low node) there refl some from to (sym e)

  -- ---- the walk to a node without links
  pub under_top : (top : ℕ) → 0 < slice_index links top → slice_index links top ≢ apart → IsUnder (2 * length keys + 2) (slice_index links) (bits_of keys) (long_of keys) top (slice_index links top) 0
  under_top top some other = under_itself (length keys) count apart (slice_index links) (bits_of keys) (long_of keys) t.linked top (slice_index links top) refl some (t.linked.below top) other

  pub under_next : (top node next b down : ℕ) → IsUnder (2 * length keys + 2) (slice_index links) (bits_of keys) (long_of keys) top node down → 0 < node → node ≤ count → b < 2 → next ≡ 2 * node + b → 0 < slice_index links next → slice_index links next ≢ apart
      → IsUnder (2 * length keys + 2) (slice_index links) (bits_of keys) (long_of keys) top (slice_index links next) (down + 1)
  under_next top node next b down u some within small is held other =
      under_more (length keys) count apart (slice_index links) (bits_of keys) (long_of keys) t.linked top node (slice_index links next) b down u some within small held (ap (slice_index links) (sym is)) other

  -- a node is less deep than its data have bits
  pub shallow : (top node down : ℕ) → IsUnder (2 * length keys + 2) (slice_index links) (bits_of keys) (long_of keys) top node down → 0 < node → node ≤ count → down < 8 * length (key_of keys 1)
  shallow top node down u some within = omega (arith, u.within, (t.stored node some within).bits, t.alike node 1 some (omega (arith, t.linked.few)) (omega arith) (omega (arith, t.linked.few)))

  -- ---- a node that goes
  pub cut : (end leaf : ℕ) → apart ≡ 0 → slice_index links end ≡ leaf → 0 < leaf → end < length links → slice_index links (2 * leaf) ≡ 0 → slice_index links (2 * leaf + 1) ≡ 0 → IsTrie count (set links end 0) keys leaf
  cut end leaf whole here some within left right = record {
    linked = pruned (length keys) count (slice_index links) (bits_of keys) (long_of keys) (subst (IsLinked (length keys) count (slice_index links) (bits_of keys) (long_of keys)) whole t.linked) (slice_index (set links end 0)) end leaf some here
        (λ i from to. cases i from to (cases_eq i (2 * leaf))) (get_or-set_same links end 0 0 within) (λ i other. get_or-set_other links end i 0 0 other);
    few = t.few;
    root = length-set links end 0 ∙ t.root;
    stored = t.stored;
    alike = t.alike;
    distinct = t.distinct;
  }
    where
      cases : (i : ℕ) → 2 * leaf ≤ i → i ≤ 2 * leaf + 1 → (i ≡ 2 * leaf) ⊎ (i ≡ 2 * leaf → ⊥) → slice_index links i ≡ 0
      cases i from to (inl e) = ap (slice_index links) e ∙ left
      cases i from to (inr a) = let e : i ≡ 2 * leaf + 1 = omega arith in ap (slice_index links) e ∙ right

pub way_begun : (links : List ℕ) (keys : List (List ℕ)) (key : List ℕ) → IsThere links keys key → IsOnWay links keys key (length links - 1) 0
way_begun links keys key h =
    let p = h.trie.linked.placed h.node h.some h.within h.other in
    let at : slice_index links (way_of links keys key p.depth) ≡ h.node = ap (λ k. slice_index links (way_of links keys k p.depth)) (sym h.is) ∙ p.at in
    record {
      there = omega (arith, h.trie.root);
      place = p.depth;
      before = omega arith;
      deep = omega (arith, p.within, ap prefix_length h.is);
      some = omega (arith, h.some);
      found = ap (key_of keys) at ∙ h.is;
    }

-- ---- a node that comes
module _ (count carried at depth : ℕ) (links : List ℕ) (keys : List (List ℕ)) (c : IsCarried count links keys carried at depth) where
  pub carried_range : at < length links
  carried_range = rw (← c.there) (in_range count carried links keys c.trie (key_of keys carried) depth)

  pub put_down : slice_index links at ≡ 0 → IsTrie count (set links at carried) keys 0
  put_down none = record {
    linked = ended (length keys) count carried (slice_index links) (bits_of keys) (long_of keys) c.trie.linked at depth c.some c.within c.there c.deep (slice_index (set links at carried)) none c.real
        (get_or-set_same links at carried 0 carried_range) (λ i other. get_or-set_other links at i carried 0 other);
    few = c.trie.few;
    root = length-set links at carried ∙ c.trie.root;
    stored = c.trie.stored;
    alike = c.trie.alike;
    distinct = c.trie.distinct;
  }

  pub pass_on : (found bit : ℕ) → slice_index links at ≡ found → 0 < found → depth < prefix_length (key_of keys carried) → bit ≡ bit_of (key_of keys carried) depth → IsCarried count links keys carried (2 * found + bit) (depth + 1)
  pass_on found bit met some less is = record {
    trie = c.trie;
    some = c.some;
    within = c.within;
    there = further (length keys) count carried (slice_index links) (bits_of keys) (long_of keys) c.trie.linked at depth c.some c.within c.there c.deep found some met ∙ ap (λ b. 2 * found + b) (sym is);
    deep = omega arith;
    real = omega arith;
  }

  module _ (found : ℕ) (new : List ℕ) (met : slice_index links at ≡ found) (some_found : 0 < found) (short : prefix_length (key_of keys carried) ≤ depth) (long : length new ≡ length links) (r : Replaces (slice_index links) (slice_index new) at found carried) where
    is_short : prefix_length (key_of keys carried) ≡ depth
    is_short = omega (arith, c.deep)

    found_within : found ≤ count
    found_within = omega (arith, c.trie.linked.below at)

    apart_keys : prefix_length (key_of keys found) ≡ prefix_length (key_of keys carried) → ((k : ℕ) → k < prefix_length (key_of keys carried) → bit_of (key_of keys carried) k ≡ bit_of (key_of keys found) k) → ⊥
    apart_keys lengths bits =
        let few = c.trie.linked.few in
        let same : key_of keys carried ≡ key_of keys found =
        same_prefix (key_of keys carried) (key_of keys found) (c.trie.stored carried c.some c.within) (c.trie.stored found some_found found_within)
        (c.trie.alike carried found c.some (omega (arith, c.within, few)) some_found (omega (arith, found_within, few))) (sym lengths) bits in
        c.trie.linked.off c.some at (met ∙ sym (c.trie.distinct carried found c.some c.within some_found found_within same))

    pub deep_on : depth + 1 ≤ prefix_length (key_of keys found)
    deep_on = deep_swapped (length keys) count carried (slice_index links) (bits_of keys) (long_of keys) c.trie.linked at depth c.some c.within c.there c.deep found some_found met (slice_index new) r is_short apart_keys

    pub swap_on : (bit : ℕ) → bit ≡ bit_of (key_of keys found) depth → IsCarried count new keys found (2 * carried + bit) (depth + 1)
    swap_on bit is = record {
      trie = record {
        linked = swapped (length keys) count carried (slice_index links) (bits_of keys) (long_of keys) c.trie.linked at depth c.some c.within c.there c.deep found some_found met (slice_index new) r is_short apart_keys;
        few = c.trie.few;
        root = long ∙ c.trie.root;
        stored = c.trie.stored;
        alike = c.trie.alike;
        distinct = c.trie.distinct;
      };
      some = some_found;
      within = found_within;
      there = further_swapped (length keys) count carried (slice_index links) (bits_of keys) (long_of keys) c.trie.linked at depth c.some c.within c.there c.deep found some_found met (slice_index new) r is_short apart_keys ∙ ap (λ b. 2 * carried + b) (sym is);
      deep = deep_on;
      real = omega (arith, c.some);
    }

-- ---- a node in the place of one that goes
pub filled : (count : ℕ) (links new : List ℕ) (keys : List (List ℕ)) (at end node leaf down : ℕ) → IsTrie count links keys 0 → slice_index links at ≡ node → 0 < node → slice_index links end ≡ leaf → 0 < leaf → end < length links → slice_index links (2 * leaf) ≡ 0 → slice_index links (2 * leaf + 1) ≡ 0
    → IsUnder (2 * length keys + 2) (slice_index links) (bits_of keys) (long_of keys) at leaf down → leaf ≢ node → length new ≡ length links → Replaces (slice_index (set links end 0)) (slice_index new) at node leaf → IsTrie count new keys node
filled count links new keys at end node leaf down t here some_node there some within left right u differ long r =
    let cut_off : IsTrie count (set links end 0) keys leaf = cut count 0 links keys t end leaf refl there some within left right in
    let bare : (i : ℕ) → 2 * leaf ≤ i → i ≤ 2 * leaf + 1 → slice_index links i ≡ 0 = λ i from to. cases i from to (cases_eq i (2 * leaf)) in
    let start : way (slice_index (set links end 0)) (2 * length keys + 2) (bits_of keys leaf) u.above ≡ at =
    start_left (length keys) count (slice_index links) (bits_of keys) (long_of keys) t.linked (slice_index (set links end 0)) end leaf some there bare (get_or-set_same links end 0 0 within) (λ i other. get_or-set_other links end i 0 0 other) at down u in
    let still : slice_index (set links end 0) at ≡ node = get_or-set_other links end at 0 0 (λ e. differ (sym there ∙ ap (slice_index links) (sym e) ∙ here)) ∙ here in
    record {
      linked = replaced (length keys) count leaf (slice_index (set links end 0)) (bits_of keys) (long_of keys) cut_off.linked (slice_index new) at node u.above some (omega (arith, t.linked.below end)) some_node still start r (omega (arith, u.within));
      few = t.few;
      root = long ∙ t.root;
      stored = t.stored;
      alike = t.alike;
      distinct = t.distinct;
    }
  where
    cases : (i : ℕ) → 2 * leaf ≤ i → i ≤ 2 * leaf + 1 → (i ≡ 2 * leaf) ⊎ (i ≡ 2 * leaf → ⊥) → slice_index links i ≡ 0
    cases i from to (inl e) = ap (slice_index links) e ∙ left
    cases i from to (inr a) = let e : i ≡ 2 * leaf + 1 = omega arith in ap (slice_index links) e ∙ right

-- ---- the longest prefix of a key
worth_of : (key stored : List ℕ) (b : Bool) (best : ℕ) → is_prefix_of key stored ≡ b → (is_prefix_of key stored ≡ true → prefix_length stored + 1 ≤ best) → (if b then prefix_length stored + 1 else 0) ≤ best
worth_of key stored true best e h = h e
worth_of key stored false best e h = omega arith

no_longer : (key stored : List ℕ) → is_prefix_of key stored ≡ true → prefix_length stored ≤ prefix_length key
no_longer key stored e =
    let h = both_true (nat_le (prefix_length stored) (prefix_length key)) _ e in
    grind (arith, nat_tests, h.0)

module _ (count : ℕ) (links : List ℕ) (keys : List (List ℕ)) (key : List ℕ) (t : IsTrie count links keys 0) (has : prefix_length key + 32 ≤ 8 * length key) where
  -- a match stands on the way of the key's bits
  on_way : (node : ℕ) → 0 < node → node ≤ count → is_prefix_of key (key_of keys node) ≡ true → (d : ℕ) × (d ≤ prefix_length key) × (slice_index links (way_of links keys key d) ≡ node)
  on_way node some within e =
      let p = t.linked.placed node some within (omega arith) in
      let le : prefix_length (key_of keys node) ≤ prefix_length key = no_longer key (key_of keys node) e in
      let same : way_of links keys key p.depth ≡ way_of links keys (key_of keys node) p.depth =
      same_bits (slice_index links) (2 * length keys + 2) (bit_of key) (bit_of (key_of keys node)) p.depth (λ k lt. prefix_bits key (key_of keys node) k e (omega (arith, p.within)) (omega (arith, p.within))) in
      (p.depth, omega (arith, p.within), ap (slice_index links) same ∙ p.at)

  pub most_ended : (at depth best : ℕ) → IsBest links keys key at depth best → slice_index links at ≡ 0 → IsMost count keys key best
  most_ended at depth best b none = record {
    most = λ node some within. worth_of key (key_of keys node) (is_prefix_of key (key_of keys node)) best refl (λ e. seen node some within e);
    from = λ some. let f = b.from some in (slice_index links f.0, f.1, t.linked.below f.0, f.2);
  }
    where
      seen : (node : ℕ) → 0 < node → node ≤ count → is_prefix_of key (key_of keys node) ≡ true → prefix_length (key_of keys node) + 1 ≤ best
      seen node some within e =
          let w = on_way node some within e in
          let value : worth key (key_of keys node) ≡ prefix_length (key_of keys node) + 1 = ap (λ b. if b then prefix_length (key_of keys node) + 1 else 0) e in
          cases w.0 w.2 value (cases_lt w.0 depth)
        where
          cases : (d : ℕ) → slice_index links (way_of links keys key d) ≡ node → worth key (key_of keys node) ≡ prefix_length (key_of keys node) + 1 → (d < depth) ⊎ (depth ≤ d) → prefix_length (key_of keys node) + 1 ≤ best
          cases d here value (inl lt) = omega (arith, b.seen d lt (omega arith), ap (λ n. worth key (key_of keys n)) here)
          cases d here value (inr le) =
              absurd (omega (arith, earlier (length keys) count 0 (slice_index links) (bits_of keys) (long_of keys) t.linked (bit_of key) (bit_low key) d depth le (omega arith), ap (slice_index links) b.there))

-- one prefix more on the way
module _ (links : List ℕ) (keys : List (List ℕ)) (key : List ℕ) (at depth best more : ℕ) (b : IsBest links keys key at depth best) (some : 0 < slice_index links at) (is : more ≡ max best (worth key (key_of keys (slice_index links at)))) where
  seen_more : (k : ℕ) → k < depth + 1 → 0 < slice_index links (way_of links keys key k) → worth key (key_of keys (slice_index links (way_of links keys key k))) ≤ more
  seen_more k lt held = cases (cases_lt k depth)
    where
      cases : (k < depth) ⊎ (depth ≤ k) → worth key (key_of keys (slice_index links (way_of links keys key k))) ≤ more
      cases (inl less) = omega (arith, b.seen k less held, is)
      cases (inr le) =
          let same : k ≡ depth = omega arith in
          omega (arith, is, ap (λ i. worth key (key_of keys (slice_index links i))) (ap (way_of links keys key) same ∙ b.there))

  from_more : 0 < more → (i : ℕ) × (0 < slice_index links i) × (worth key (key_of keys (slice_index links i)) ≡ more)
  from_more held = cases (cases_lt best (worth key (key_of keys (slice_index links at))))
    where
      cases : (best < worth key (key_of keys (slice_index links at))) ⊎ (worth key (key_of keys (slice_index links at)) ≤ best) → (i : ℕ) × (0 < slice_index links i) × (worth key (key_of keys (slice_index links i)) ≡ more)
      cases (inl lt) = (at, some, omega (arith, is))
      cases (inr le) = let f = b.from (omega (arith, is)) in (f.0, f.1, omega (arith, is, f.2))

  pub best_on : (bit : ℕ) → depth < prefix_length key → bit ≡ bit_of key depth → IsBest links keys key (2 * slice_index links at + bit) (depth + 1) more
  best_on bit less bit_is = record {
    there = way_next (slice_index links) (2 * length keys + 2) (bit_of key) depth ∙ ap (λ i. 2 * slice_index links i + bit_of key depth) b.there ∙ ap (λ n. 2 * slice_index links at + n) (sym bit_is);
    deep = omega arith;
    seen = seen_more;
    from = from_more;
  }

  pub most_last : (count : ℕ) → IsTrie count links keys 0 → prefix_length key + 32 ≤ 8 * length key → depth ≡ prefix_length key → IsMost count keys key more
  most_last count t has last = record {
    most = λ node held within. worth_of key (key_of keys node) (is_prefix_of key (key_of keys node)) more refl (λ e. seen node held within e);
    from = λ held. let f = from_more held in (slice_index links f.0, f.1, t.linked.below f.0, f.2);
  }
    where
      seen : (node : ℕ) → 0 < node → node ≤ count → is_prefix_of key (key_of keys node) ≡ true → prefix_length (key_of keys node) + 1 ≤ more
      seen node held within e =
          let w = on_way count links keys key t has node held within e in
          let value : worth key (key_of keys node) ≡ prefix_length (key_of keys node) + 1 = ap (λ b. if b then prefix_length (key_of keys node) + 1 else 0) e in
          omega (arith, seen_more w.0 (omega (arith, w.1)) (omega (arith, w.2)), ap (λ n. worth key (key_of keys n)) w.2)
