-- What contracts see of a set of prefixes, and what its calls leave of it.
use Rattle.std.proofs.Common.{◌≡◌, ◌≢◌, ℕ, ◌+◌, ◌-◌, ◌*◌, ◌<◌, ◌≤◌, ◌^◌, Bool, true, false, if◌then◌else◌, List, [], ◌∷◌, ◌++◌, length, get_or, set, take, replicate, Option, Some, None, MatchOption, refl, sym, ap, ap₂, subst, ◌∙◌, arith, ◌⊎◌, inl, inr, get_or-set_same, get_or-set_other, length-set, append-nil}
use Rattle.std.specs.List.{All, Contains, slice_index}
use Rattle.std.proofs.lemmas.Bool.{cases_lt, cases_eq}
use Rattle.std.proofs.lemmas.List.{get_or-take, get_or_default, length-take-le, take_more_set, drop_all, get_or-replicate, length-replicate, get_or_past}
use Rattle.std.proofs.lemmas.List.Elements.{All-set, All-replicate}
use Rattle.std.proofs.lemmas.List.{with_items_is}
use Rattle.std.specs.Option.{SomeIff, IfSome}
use Rattle.std.specs.declared.vec.Vec.{Vec}
use Rattle.std.specs.Vec.{with_items}
use Rattle.bt_mapkind.specs.Atomic.{overwritten}
use Rattle.bt_mapkind.specs.Prefix.{prefix_length, is_prefix_of}
use Rattle.map_trie.specs.Ways.{bit_of, IsLinked}
use Rattle.map_trie.specs.Trie.{Prefixes, IsStored, IsTrie, IsThere, IsKept, IsMost, IsLongest, IsWithout, key_of, worth}
use Rattle.map_trie.proofs.GrowLemmas.{begun}
use Rattle.map_trie.proofs.BitLemmas.{bit_low}
use Rattle.map_trie.proofs.TrieLemmas.{bits_of, long_of}
use Rattle.map_trie.proofs.MoveLemmas.{key_other, key_here}

pub overwritten-whole : (old bytes : List ℕ) → length bytes ≡ length old → overwritten old 0 bytes ≡ bytes
overwritten-whole old bytes same = ap (λ l. bytes ++ l) (drop_all (0 + length bytes) old (omega arith)) ∙ append-nil bytes

-- ---- nodes and the list of their prefixes
pub record HasNode (len : ℕ) (keys : List (List ℕ)) (key : List ℕ) : Type 0 where
  pub node : ℕ
  pub some : 0 < node
  pub within : node ≤ len
  pub is : key_of keys node ≡ key

pub node_of : (len : ℕ) (keys : List (List ℕ)) (key : List ℕ) → len ≤ length keys → Contains (take len keys) key → HasNode len keys key
node_of len keys key fits there =
    let under : there.0 < len = omega (arith, there.1, length-take-le len keys fits) in
    let at : there.0 + 1 - 1 ≡ there.0 = omega arith in
    record {
      node = there.0 + 1;
      some = omega arith;
      within = omega arith;
      is = ap (λ i. get_or keys i []) at ∙ get_or_default keys there.0 [] key (omega arith) ∙ sym (get_or-take len keys there.0 key under) ∙ there.2;
    }

pub listed : (len : ℕ) (keys : List (List ℕ)) (node : ℕ) → len ≤ length keys → 0 < node → node ≤ len → Contains (take len keys) (key_of keys node)
listed len keys node fits some within =
    (node - 1, omega (arith, length-take-le len keys fits), get_or-take len keys (node - 1) (key_of keys node) (omega arith) ∙ get_or_default keys (node - 1) (key_of keys node) [] (omega arith))

pub listed_as : (len : ℕ) (keys : List (List ℕ)) (node : ℕ) (key : List ℕ) → len ≤ length keys → 0 < node → node ≤ len → key_of keys node ≡ key → Contains (take len keys) key
listed_as len keys node key fits some within is = subst (Contains (take len keys)) is (listed len keys node fits some within)

module _ (len key_size : ℕ) (links : List ℕ) (keys : List (List ℕ)) (k : IsKept len key_size links keys) where
  fits : len ≤ length keys
  fits = k.trie.linked.few

  pub sized : (node : ℕ) → 0 < node → node ≤ length keys → length (key_of keys node) ≡ key_size
  sized node some within = k.sizes (node - 1) [] (omega arith)

  -- ---- a prefix that comes
  module _ (key : List ℕ) (room : len < length keys) (size : length key ≡ key_size) (stored : IsStored key) (absent : Contains (take len keys) key → ⊥) where
    at : len + 1 - 1 ≡ len
    at = omega arith

    key_before : (v : ℕ) → 0 < v → v ≤ len → key_of (set keys len key) v ≡ key_of keys v
    key_before v some within = let differ : v - 1 ≢ len = omega arith in get_or-set_other keys len (v - 1) key [] differ

    key_last : key_of (set keys len key) (len + 1) ≡ key
    key_last = ap (λ i. get_or (set keys len key) i []) at ∙ get_or-set_same keys len key [] room

    sizes_more : All (λ other. length other ≡ key_size) (set keys len key)
    sizes_more = All-set (λ other. length other ≡ key_size) keys len key size k.sizes

    long : length (set keys len key) ≡ length keys
    long = length-set keys len key

    sized_more : (v : ℕ) → 0 < v → v ≤ length (set keys len key) → length (key_of (set keys len key) v) ≡ key_size
    sized_more v some within = sizes_more (v - 1) [] (omega arith)

    stored_more : (v : ℕ) → 0 < v → v ≤ len + 1 → (v ≡ len + 1) ⊎ (v ≡ len + 1 → ⊥) → IsStored (key_of (set keys len key) v)
    stored_more v some within (inl e) = subst (λ n. IsStored (key_of (set keys len key) n)) (sym e) (subst IsStored (sym key_last) stored)
    stored_more v some within (inr a) = subst IsStored (sym (key_before v some (omega arith))) (k.trie.stored v some (omega arith))

    new_key : (v : ℕ) → 0 < v → v ≤ len → key_of keys v ≢ key
    new_key v some within e = absent (listed_as len keys v key fits some within e)

    distinct_more : (v w : ℕ) → 0 < v → v ≤ len + 1 → 0 < w → w ≤ len + 1 → key_of (set keys len key) v ≡ key_of (set keys len key) w → (v ≡ len + 1) ⊎ (v ≡ len + 1 → ⊥) → (w ≡ len + 1) ⊎ (w ≡ len + 1 → ⊥) → v ≡ w
    distinct_more v w sv lv sw lw e (inl p) (inl q) = p ∙ sym q
    distinct_more v w sv lv sw lw e (inl p) (inr q) = absurd (new_key w sw (omega arith) (sym (key_before w sw (omega arith)) ∙ sym e ∙ ap (key_of (set keys len key)) p ∙ key_last))
    distinct_more v w sv lv sw lw e (inr p) (inl q) = absurd (new_key v sv (omega arith) (sym (key_before v sv (omega arith)) ∙ e ∙ ap (key_of (set keys len key)) q ∙ key_last))
    distinct_more v w sv lv sw lw e (inr p) (inr q) =
        k.trie.distinct v w sv (omega arith) sw (omega arith) (sym (key_before v sv (omega arith)) ∙ e ∙ key_before w sw (omega arith))

    more : IsTrie (len + 1) links (set keys len key) (len + 1)
    more = record {
      linked = subst (λ n. IsLinked n (len + 1) (slice_index links) (bits_of (set keys len key)) (long_of (set keys len key)) (len + 1)) (sym long)
          (begun (length keys) len (slice_index links) (bits_of keys) (bits_of (set keys len key)) (long_of keys) (long_of (set keys len key)) k.trie.linked room (λ v d. bit_low _ d)
          (λ v some within. (ap bit_of (key_before v some within), ap prefix_length (key_before v some within))));
      few = omega (arith, long, k.trie.few);
      root = omega (arith, long, k.trie.root);
      stored = λ v some within. stored_more v some within (cases_eq v (len + 1));
      alike = λ v w sv lv sw lw. sized_more v sv lv ∙ sym (sized_more w sw lw);
      distinct = λ v w sv lv sw lw e. distinct_more v w sv lv sw lw e (cases_eq v (len + 1)) (cases_eq w (len + 1));
    }

    module _ (new : List (List ℕ)) (written : new ≡ set keys len (overwritten (get_or keys len []) 0 key)) where
      is_set : new ≡ set keys len key
      is_set = written ∙ ap (set keys len) (overwritten-whole (get_or keys len []) key (size ∙ sym (k.sizes len [] room)))

      pub added : IsTrie (len + 1) links new (len + 1)
      added = subst (λ n. IsTrie (len + 1) links n (len + 1)) (sym is_set) more

      pub sizes_added : All (λ other. length other ≡ key_size) new
      sizes_added = subst (All (λ other. length other ≡ key_size)) (sym is_set) sizes_more

      pub list_added : take (len + 1) new ≡ take len keys ++ key ∷ []
      list_added = ap (take (len + 1)) is_set ∙ take_more_set keys len key room

      pub length_added : length new ≡ length keys
      length_added = ap length is_set ∙ long

  -- ---- a prefix that goes
  pub has_node : (key : List ℕ) → Contains (take len keys) key → HasNode len keys key
  has_node key there = node_of len keys key fits there

  pub is_there : (key : List ℕ) → Contains (take len keys) key → IsThere links keys key
  is_there key there =
      let h = has_node key there in
      record { count = len; apart = 0; trie = k.trie; node = h.node; some = h.some; within = h.within; other = omega (arith, h.some); is = h.is }

  module _ (key : List ℕ) (node : ℕ) (some : 0 < node) (within : node ≤ len) (is : key_of keys node ≡ key) where
    pub without_last : node ≡ len → IsWithout (take len keys) key (take (len - 1) keys)
    without_last last = record {
      count = omega (arith, length-take-le (len - 1) keys (omega (arith, fits)), length-take-le len keys fits);
      from = λ other there. (
        let h = node_of (len - 1) keys other (omega (arith, fits)) there in listed_as len keys h.node other fits h.some (omega (arith, h.within)) h.is,
        λ same. let h = node_of (len - 1) keys other (omega (arith, fits)) there in omega (arith, h.within, k.trie.distinct h.node node h.some (omega (arith, h.within)) some within (h.is ∙ same ∙ sym is)),
      );
      kept = λ other there apart.
          let h = node_of len keys other fits there in
          let different : h.node ≢ node = λ e. apart (sym h.is ∙ ap (key_of keys) e ∙ is) in
          listed_as (len - 1) keys h.node other (omega (arith, fits)) h.some (omega (arith, h.within)) h.is;
    }

    -- if the last has the number of the one that goes
    module _ (less : node < len) (new : List (List ℕ)) (moved : new ≡ set keys (node - 1) (key_of keys len)) where
      pub length_moved : length new ≡ length keys
      length_moved = ap length moved ∙ length-set keys (node - 1) (key_of keys len)

      pub sizes_moved : All (λ other. length other ≡ key_size) new
      sizes_moved = subst (All (λ other. length other ≡ key_size)) (sym moved) (All-set (λ other. length other ≡ key_size) keys (node - 1) (key_of keys len) (sized len (omega arith) fits) k.sizes)

      at_other : (v : ℕ) → 0 < v → v ≢ node → key_of new v ≡ key_of keys v
      at_other v sv other = ap (λ l. key_of l v) moved ∙ key_other keys node (key_of keys len) some (omega (arith, fits)) v sv other

      at_node : key_of new node ≡ key_of keys len
      at_node = ap (λ l. key_of l node) moved ∙ key_here keys node (key_of keys len) some (omega (arith, fits))

      from_moved : (other : List ℕ) (h : HasNode (len - 1) new other) → (h.node ≡ node) ⊎ (h.node ≡ node → ⊥) → Contains (take len keys) other × (other ≢ key)
      from_moved other h (inl e) =
          let here : key_of keys len ≡ other = sym at_node ∙ ap (key_of new) (sym e) ∙ h.is in
          (listed_as len keys len other fits (omega arith) (omega arith) here, λ same. omega (arith, k.trie.distinct len node (omega arith) (omega arith) some within (here ∙ same ∙ sym is)))
      from_moved other h (inr a) =
          let here : key_of keys h.node ≡ other = sym (at_other h.node h.some a) ∙ h.is in (
            listed_as len keys h.node other fits h.some (omega (arith, h.within)) here,
            λ same. a (k.trie.distinct h.node node h.some (omega (arith, h.within)) some within (here ∙ same ∙ sym is)),
          )

      kept_moved : (other : List ℕ) (h : HasNode len keys other) → other ≢ key → (h.node ≡ len) ⊎ (h.node ≡ len → ⊥) → Contains (take (len - 1) new) other
      kept_moved other h apart (inl e) =
          listed_as (len - 1) new node other (omega (arith, fits, length_moved)) some (omega arith) (at_node ∙ ap (key_of keys) (sym e) ∙ h.is)
      kept_moved other h apart (inr a) =
          let different : h.node ≢ node = λ e. apart (sym h.is ∙ ap (key_of keys) e ∙ is) in
          listed_as (len - 1) new h.node other (omega (arith, fits, length_moved)) h.some (omega (arith, h.within)) (at_other h.node h.some different ∙ h.is)

      pub without_moved : IsWithout (take len keys) key (take (len - 1) new)
      without_moved = record {
        count = omega (arith, length-take-le (len - 1) new (omega (arith, fits, length_moved)), length-take-le len keys fits);
        from = λ other there. let h = node_of (len - 1) new other (omega (arith, fits, length_moved)) there in from_moved other h (cases_eq h.node node);
        kept = λ other there apart. let h = node_of len keys other fits there in kept_moved other h apart (cases_eq h.node len);
      }

  -- ---- the longest
  in_list : (i : ℕ) (d : List ℕ) → i < length (take len keys) → get_or (take len keys) i d ≡ key_of keys (i + 1)
  in_list i d within =
      let under : i < len = omega (arith, length-take-le len keys fits) in
      let at : i ≡ i + 1 - 1 = omega arith in
      get_or-take len keys i d under ∙ get_or_default keys i d [] (omega (arith, fits)) ∙ ap (λ n. get_or keys n []) at

  worthless : (key stored : List ℕ) (b : Bool) → is_prefix_of key stored ≡ b → worth key stored ≤ 0 → b ≡ false
  worthless key stored true e none = absurd (omega (arith, ap (λ b. if b then prefix_length stored + 1 else 0) e))
  worthless key stored false e none = refl

  matching : (key stored : List ℕ) (b : Bool) → is_prefix_of key stored ≡ b → 0 < worth key stored → (is_prefix_of key stored ≡ true) × (worth key stored ≡ prefix_length stored + 1)
  matching key stored true e some = (e, ap (λ b. if b then prefix_length stored + 1 else 0) e)
  matching key stored false e some = absurd (omega (arith, ap (λ b. if b then prefix_length stored + 1 else 0) e))

  pub longest_is : (key : List ℕ) (best : ℕ) (found : Option ℕ) → IsMost len keys key best → MatchOption found (best ≡ 0) (λ n. best ≡ n + 1) → MatchOption found (All (λ stored. is_prefix_of key stored ≡ false) (take len keys)) (λ bits. IsLongest (take len keys) key bits)
  longest_is key best None most none = λ i d within.
      let under : i + 1 ≤ len = omega (arith, within, length-take-le len keys fits) in
      rw (in_list i d within) (worthless key (key_of keys (i + 1)) (is_prefix_of key (key_of keys (i + 1))) refl (omega (arith, most.most (i + 1) (omega arith) under)))
  longest_is key best (Some n) most some =
      let f = most.from (omega arith) in
      let m = matching key (key_of keys f.0) (is_prefix_of key (key_of keys f.0)) refl (omega (arith, f.3)) in
      record {
        best = key_of keys f.0;
        there = listed len keys f.0 fits f.1 f.2;
        matches = m.0;
        is = omega (arith, m.1, f.3);
        longest = λ i d within.
            let under : i + 1 ≤ len = omega (arith, within, length-take-le len keys fits) in
            rw (in_list i d within) (λ e. omega (arith, most.most (i + 1) (omega arith) under, ap (λ b. if b then prefix_length (key_of keys (i + 1)) + 1 else 0) e));
      }

  pub seen_short : (key : List ℕ) (best : ℕ) (found : Option ℕ) → IsMost len keys key best → SomeIff found (1 ≤ best) (best - 1) → IfSome found (λ bits. bits ≤ 2048)
  seen_short key best None most iff = tt
  seen_short key best (Some n) most iff =
      let f = most.from iff.0 in
      let m = matching key (key_of keys f.0) (is_prefix_of key (key_of keys f.0)) refl (omega (arith, f.3, iff.0)) in
      let s = k.trie.stored f.0 f.1 f.2 in
      omega (arith, iff.0, iff.1, f.3, m.1, s.size, s.bits)

-- ---- an empty set
pub empty : (capacity key_size : ℕ) (links : List ℕ) (keys : List (List ℕ)) → capacity < 2 ^ 32 → key_size ≤ 260 → links ≡ replicate (2 * capacity + 3) 0 → keys ≡ replicate capacity (replicate key_size 0) → IsKept 0 key_size links keys
empty capacity key_size links keys few small links_are keys_are = record {
  trie = record {
    linked = record {
      few = omega arith;
      low = λ v d. bit_low _ d;
      below = λ i. omega (arith, none i (cases_lt i (2 * capacity + 3)));
      once = λ i j e some. absurd (omega (arith, none i (cases_lt i (2 * capacity + 3))));
      nothing = λ i _. none i (cases_lt i (2 * capacity + 3));
      fresh = λ i _ _. none i (cases_lt i (2 * capacity + 3));
      off = λ some. absurd (omega arith);
      bare = λ i _ _. none i (cases_lt i (2 * capacity + 3));
      placed = λ v some within. absurd (omega arith);
    };
    few = omega (arith, long);
    root = ap length links_are ∙ length-replicate {A = ℕ} (2 * capacity + 3) 0 ∙ ap (λ n. 2 * n + 3) (sym long);
    stored = λ v some within. absurd (omega arith);
    alike = λ v w sv lv sw lw. sizes (v - 1) [] (omega arith) ∙ sym (sizes (w - 1) [] (omega arith));
    distinct = λ v w sv lv sw lw e. absurd (omega arith);
  };
  sizes = sizes;
  small = small;
}
  where
    none : (i : ℕ) → (i < 2 * capacity + 3) ⊎ (2 * capacity + 3 ≤ i) → slice_index links i ≡ 0
    none i (inl lt) = ap (λ l. get_or l i 0) links_are ∙ get_or-replicate (2 * capacity + 3) i 0 0 lt
    none i (inr le) = get_or_past links i 0 (omega (arith, ap length links_are, length-replicate {A = ℕ} (2 * capacity + 3) 0))

    long : length keys ≡ capacity
    long = ap length keys_are ∙ length-replicate capacity (replicate key_size 0)

    sizes : All (λ key. length key ≡ key_size) keys
    sizes = subst (All (λ key. length key ≡ key_size)) (sym keys_are) (All-replicate (λ key. length key ≡ key_size) capacity (replicate key_size 0) (length-replicate {A = ℕ} key_size 0))

-- ---- links that were written
module _ {Z : Type 0} (links : Vec ℕ Z) (new : List ℕ) (long : length new ≡ links.len) where
  pub rewritten : (with_items links new).items ≡ new
  rewritten = with_items_is links new long

  pub trie_rewritten : (count apart : ℕ) (keys : List (List ℕ)) → IsTrie count new keys apart → IsTrie count (with_items links new).items keys apart
  trie_rewritten count apart keys t = subst (λ l. IsTrie count l keys apart) (sym rewritten) t

-- ---- what contracts see
module _ (len key_size : ℕ) (links : List ℕ) (keys : List (List ℕ)) (k : IsKept len key_size links keys) (p : Prefixes) (view : record { stored = take len keys; capacity = length keys; key_size = key_size } ≡ p) where
  stored_is : take len keys ≡ p.stored
  stored_is = ap (λ (x : Prefixes). x.stored) view

  pub has_room : length p.stored < p.capacity → len < length keys
  has_room room = omega (arith, ap length stored_is, length-take-le len keys k.trie.linked.few, ap (λ (x : Prefixes). x.capacity) view)

  pub has_size : (key : List ℕ) → length key ≡ p.key_size → length key ≡ key_size
  has_size key size = size ∙ sym (ap (λ (x : Prefixes). x.key_size) view)

  pub is_absent : (key : List ℕ) → (Contains p.stored key → ⊥) → Contains (take len keys) key → ⊥
  is_absent key absent there = absent (subst (λ l. Contains l key) stored_is there)

  pub is_stored : (key : List ℕ) → Contains p.stored key → Contains (take len keys) key
  is_stored key there = subst (λ l. Contains l key) (sym stored_is) there

  pub seen_added : (key : List ℕ) (new : List (List ℕ)) → take (len + 1) new ≡ take len keys ++ key ∷ [] → length new ≡ length keys → record { stored = take (len + 1) new; capacity = length new; key_size = key_size } ≡ record p { stored = p.stored ++ key ∷ [] }
  seen_added key new list long =
      ap₂ (λ (l : List (List ℕ)) c. record { stored = l; capacity = c; key_size = key_size }) (list ∙ ap (λ (l : List (List ℕ)). l ++ key ∷ []) stored_is) long
      ∙ ap (λ (x : Prefixes). record x { stored = p.stored ++ key ∷ [] }) view

  pub seen_without : (key : List ℕ) (new : List (List ℕ)) → IsWithout (take len keys) key new → IsWithout p.stored key new
  seen_without key new w = subst (λ l. IsWithout l key new) stored_is w

  pub seen_longest : (key : List ℕ) (best : ℕ) (found : Option ℕ) → IsMost len keys key best → SomeIff found (1 ≤ best) (best - 1) → MatchOption found (All (λ stored. is_prefix_of key stored ≡ false) p.stored) (λ bits. IsLongest p.stored key bits)
  seen_longest key best found most iff =
      subst (λ l. MatchOption found (All (λ stored. is_prefix_of key stored ≡ false) l) (λ bits. IsLongest l key bits)) stored_is
      (longest_is len key_size links keys k key best found most (counted found iff))
    where
      counted : (o : Option ℕ) → SomeIff o (1 ≤ best) (best - 1) → MatchOption o (best ≡ 0) (λ n. best ≡ n + 1)
      counted None h = omega (arith, h)
      counted (Some n) h = omega (arith, h.0, h.1)
