-- The prefixes of a trie as the keys of a table's entries, and what a look-up finds through them.
use Rattle.std.proofs.Common.{◌≡◌, ◌≢◌, ℕ, zero, suc, ◌+◌, ◌-◌, ◌*◌, ◌^◌, ◌<◌, ◌≤◌, Bool, true, false, ◌||◌, cond, if◌then◌else◌, List, [], ◌∷◌, ◌++◌, length, get_or, take, Option, Some, None, is_some, MatchOption, refl, sym, ap, subst, ◌∙◌, arith, ◌⊎◌, inl, inr, take-append-drop}
use Rattle.std.specs.List.{All, Contains, list_any}
use Rattle.std.proofs.lemmas.Map.Views.{Contains-from_any}
use Rattle.std.specs.FinMap as map
use Rattle.std.proofs.Math.Logic.{∥∥₁_elim}
use Rattle.std.proofs.Props.{props}
use Rattle.std.proofs.lemmas.Bool.Decides.{nat_tests}
use Rattle.std.proofs.lemmas.List.{append_cancel_left, length_push, length-drop}
use Rattle.std.proofs.lemmas.List.Elements.{All-contains, All-push, Contains-append_left, Contains-push, All-nil}
use Rattle.bt_mapkind.specs.declared.attr.MapAttr.{MapAttr}
use Rattle.bt_mapkind.specs.declared.attr.MapType.TheVariants.{LpmTrie}
use Rattle.bt_mapkind.specs.Contents.{ByKey}
use Rattle.bt_mapkind.specs.Prefix.{masked, address, prefix_length, prefix_data, has_its_bits, stored_prefix, is_same, is_prefix_of, longest_match}
use Rattle.bt_mapkind.specs.Exchange.{put_under, is_address, is_at}
use Rattle.bt_mapkind.specs.Laws.{IsLongestMatch}
use Rattle.bt_mapkind.proofs.Keyed.{same_of, is_same-itself, get-put_under, get-put_under_same}
use Rattle.bt_mapkind.proofs.Longest.{finds_longest}
use Rattle.map_table.specs.Table.{Kept}
use Rattle.map_table.proofs.TableLemmas.{with_entries}
use Rattle.map_table.specs.Order.{key_cmp}
use Rattle.std.specs.Cmp.Lexicographic.{nat_list_cmp_total}
use Rattle.std.proofs.lemmas.List.{get_or_default}
use Rattle.bt_mapkind.specs.Attributes.{is_lpm}
use Rattle.map_trie.specs.Trie.{Prefixes, IsStored, IsLongest, IsWithout}
use Rattle.bt_lpm.specs.Prefixes.{prefix_of}
use Rattle.bt_mapkind.specs.Bytes.{AreBytes}
use Rattle.bt_lpm.specs.Held.{HasKeys}
use Rattle.bt_lpm.proofs.PrefixLemmas.{length_of-prefix_of, prefix_of-matches, matches}
use Rattle.bt_lpm.proofs.LongestLemmas.{AreKeys, NoneAbove, found_in}

-- the prefixes of a trie are the keys of a table's entries
pub record IsKeyed (table : Kept) (trie : Prefixes) : Type 0 where
  pub capacity : trie.capacity ≡ table.capacity
  pub key_size : trie.key_size ≡ table.key_size
  pub count : length trie.stored ≡ map.len table.entries
  pub each : All (λ stored. map.contains_key table.entries stored ≡ true) trie.stored
  pub bytes : All AreBytes trie.stored
  pub back : (stored : List ℕ) → map.contains_key table.entries stored ≡ true → Contains trie.stored stored

pub keyed : (table : Kept) (trie : Prefixes) → HasKeys table trie → IsKeyed table trie
keyed table trie h = record {
  capacity = h.capacity;
  key_size = h.key_size;
  count = h.count;
  each = h.each;
  bytes = h.bytes;
  back = λ stored there. Contains-from_any same_of stored trie.stored (h.back stored there);
}

or_true : (a b : Bool) → b ≡ true → a || b ≡ true
or_true true b e = refl
or_true false b e = e

any_at : (key : List ℕ) (keys : List (List ℕ)) (i : ℕ) → i < length keys → get_or keys i key ≡ key → list_any (is_same key) keys ≡ true
any_at key [] i within e = absurd (omega arith)
any_at key (x ∷ keys) zero within e = ap (λ b. b || list_any (is_same key) keys) (ap (is_same key) e ∙ is_same-itself key)
any_at key (x ∷ keys) (suc i) within e = or_true (is_same key x) (list_any (is_same key) keys) (any_at key keys i (omega arith) e)

-- that they are has one proof, so that it can be taken out of a fact that some proof exists
has_keys-prop : (table : Kept) (trie : Prefixes) → IsProp (HasKeys table trie)
has_keys-prop table trie = hlevel props

pub keys_of : (table : Kept) (trie : Prefixes) → ∥ HasKeys table trie ∥₁ → IsKeyed table trie
keys_of table trie some = keyed table trie (∥∥₁_elim some (has_keys-prop table trie) (λ h. h))

pub has_keys : (table : Kept) (trie : Prefixes) → IsKeyed table trie → HasKeys table trie
has_keys table trie h = record {
  capacity = h.capacity;
  key_size = h.key_size;
  count = h.count;
  each = h.each;
  bytes = h.bytes;
  back = λ stored there. let c = h.back stored there in any_at stored trie.stored c.0 c.1 c.2;
}

-- ---- the keys after a change
module _ (m : ByKey (List ℕ)) (key : List ℕ) (x : Option (List ℕ)) where
  -- another key is there as before
  other_there : (other : List ℕ) (b : Bool) → is_same other key ≡ b → is_some (cond b x (map.get m other)) ≡ true → (other ≡ key) ⊎ (map.contains_key m other ≡ true)
  other_there other true same there = inl (same_of other key same)
  other_there other false differ there = inr there

  pub there_before : (other : List ℕ) → map.contains_key (put_under m key x) other ≡ true → (other ≡ key) ⊎ (map.contains_key m other ≡ true)
  there_before other there = other_there other (is_same other key) refl (sym (ap is_some (get-put_under m key other x)) ∙ there)

  other_still : (other : List ℕ) (b : Bool) → is_same other key ≡ b → other ≢ key → map.contains_key m other ≡ true → is_some (cond b x (map.get m other)) ≡ true
  other_still other true same differ there = absurd (differ (same_of other key same))
  other_still other false same differ there = there

  pub there_still : (other : List ℕ) → other ≢ key → map.contains_key m other ≡ true → map.contains_key (put_under m key x) other ≡ true
  there_still other differ there = ap is_some (get-put_under m key other x) ∙ other_still other (is_same other key) refl differ there

  some_still : (other : List ℕ) (b : Bool) → is_some x ≡ true → map.contains_key m other ≡ true → is_some (cond b x (map.get m other)) ≡ true
  some_still other true some there = some
  some_still other false some there = there

  pub there_with : (other : List ℕ) → is_some x ≡ true → map.contains_key m other ≡ true → map.contains_key (put_under m key x) other ≡ true
  there_with other some there = ap is_some (get-put_under m key other x) ∙ some_still other (is_same other key) some there

no_key : {P : Type 0} (m : ByKey (List ℕ)) (key : List ℕ) → map.get m key ≡ None → map.contains_key m key ≡ true → P
no_key m key none there = cc (ap is_some none, there)

module _ (old new : Kept) (trie : Prefixes) (stored : List ℕ) (h : IsKeyed old trie) where
  pub keys_added : (value : List ℕ) (more : Prefixes) → AreBytes stored → None ≡ map.get old.entries stored → new ≡ with_entries old (map.insert old.entries stored value) → more ≡ record trie { stored = trie.stored ++ stored ∷ [] } → IsKeyed new more
  keys_added value more bytes absent after is =
      let entries : new.entries ≡ put_under old.entries stored (Some value) = ap (λ (k : Kept). k.entries) after in
      let list : more.stored ≡ trie.stored ++ stored ∷ [] = ap (λ (p : Prefixes). p.stored) is in
      let longer : map.len new.entries ≡ map.len old.entries + 1 = ap (λ (n : ByKey (List ℕ)). map.len n) entries ∙ map.len-insert nat_list_cmp_total old.entries stored value ∙ ap (λ b. cond b (map.len old.entries) (map.len old.entries + 1)) (ap is_some (sym absent)) in
      record {
        capacity = ap (λ (p : Prefixes). p.capacity) is ∙ h.capacity ∙ sym (ap (λ (k : Kept). k.capacity) after);
        key_size = ap (λ (p : Prefixes). p.key_size) is ∙ h.key_size ∙ sym (ap (λ (k : Kept). k.key_size) after);
        count = omega (arith, ap length list, length_push trie.stored stored, h.count, longer);
        each = subst (All (λ other. map.contains_key new.entries other ≡ true)) (sym list)
            (All-push (λ other. map.contains_key new.entries other ≡ true) trie.stored stored
            (λ i d within. ap (λ (n : ByKey (List ℕ)). map.contains_key n (get_or trie.stored i d)) entries ∙ there_with old.entries stored (Some value) (get_or trie.stored i d) refl (h.each i d within))
            (ap (λ (n : ByKey (List ℕ)). map.contains_key n stored) entries ∙ ap is_some (get-put_under_same old.entries stored (Some value))));
        bytes = subst (All AreBytes) (sym list) (All-push AreBytes trie.stored stored h.bytes bytes);
        back = λ other has. subst (λ l. Contains l other) (sym list) (back other (there_before old.entries stored (Some value) other (sym (ap (λ (n : ByKey (List ℕ)). map.contains_key n other) entries) ∙ has)));
      }
    where
      back : (other : List ℕ) → (other ≡ stored) ⊎ (map.contains_key old.entries other ≡ true) → Contains (trie.stored ++ stored ∷ []) other
      back other (inl same) = subst (Contains (trie.stored ++ stored ∷ [])) (sym same) (Contains-push trie.stored stored)
      back other (inr has) = Contains-append_left trie.stored (stored ∷ []) other (h.back other has)

  pub keys_left : (less : Prefixes) → map.contains_key old.entries stored ≡ true → new ≡ with_entries old (map.remove old.entries stored) → IsWithout trie.stored stored less.stored → less.capacity ≡ trie.capacity → less.key_size ≡ trie.key_size → IsKeyed new less
  keys_left less there after w capacity key_size =
      let entries : new.entries ≡ put_under old.entries stored None = ap (λ (k : Kept). k.entries) after in
      let fewer : map.len new.entries ≡ map.len old.entries - 1 = ap (λ (n : ByKey (List ℕ)). map.len n) entries ∙ map.len-remove nat_list_cmp_total old.entries stored ∙ ap (λ b. cond b (map.len old.entries - 1) (map.len old.entries)) (there) in
      record {
        capacity = capacity ∙ h.capacity ∙ sym (ap (λ (k : Kept). k.capacity) after);
        key_size = key_size ∙ h.key_size ∙ sym (ap (λ (k : Kept). k.key_size) after);
        count = omega (arith, w.count, h.count, fewer);
        each = λ i d within.
            let f = w.from (get_or less.stored i d) (i, within, get_or_default less.stored i (get_or less.stored i d) d within) in
            ap (λ (n : ByKey (List ℕ)). map.contains_key n (get_or less.stored i d)) entries
            ∙ there_still old.entries stored None (get_or less.stored i d) f.1 (All-contains (λ other. map.contains_key old.entries other ≡ true) trie.stored (get_or less.stored i d) h.each f.0);
        bytes = λ i d within. All-contains AreBytes trie.stored (get_or less.stored i d) h.bytes (w.from (get_or less.stored i d) (i, within, get_or_default less.stored i (get_or less.stored i d) d within)).0;
        back = λ other has.
            let still : map.contains_key (put_under old.entries stored None) other ≡ true = sym (ap (λ (n : ByKey (List ℕ)). map.contains_key n other) entries) ∙ has in
            back other still (there_before old.entries stored None other still);
      }
    where
      gone : (other : List ℕ) → map.contains_key (put_under old.entries stored None) other ≡ true → other ≢ stored
      gone other has same = no_key (put_under old.entries stored None) stored (get-put_under_same old.entries stored None) (sym (ap (map.contains_key (put_under old.entries stored None)) same) ∙ has)

      back : (other : List ℕ) → map.contains_key (put_under old.entries stored None) other ≡ true → (other ≡ stored) ⊎ (map.contains_key old.entries other ≡ true) → Contains less.stored other
      back other has (inl same) = absurd (gone other has same)
      back other has (inr before) = w.kept other (h.back other before) (gone other has)

-- a key that has no entry is not among them
pub not_listed : (table : Kept) (trie : Prefixes) (stored : List ℕ) → IsKeyed table trie → map.get table.entries stored ≡ None → Contains trie.stored stored → ⊥
not_listed table trie stored h absent there = no_key table.entries stored absent (All-contains (λ other. map.contains_key table.entries other ≡ true) trie.stored stored h.each there)

-- no entries
pub keys_none : (a : MapAttr) (table : Kept) (trie : Prefixes) → table ≡ record { entries = map.empty; capacity = a.max_entries; key_size = a.key_size; value_size = a.value_size } → trie ≡ record { stored = []; capacity = a.max_entries; key_size = a.key_size } → IsKeyed table trie
keys_none a table trie table_is trie_is =
    let entries : table.entries ≡ map.empty = ap (λ (k : Kept). k.entries) table_is in
    let list : trie.stored ≡ [] = ap (λ (p : Prefixes). p.stored) trie_is in
    record {
      capacity = ap (λ (p : Prefixes). p.capacity) trie_is ∙ sym (ap (λ (k : Kept). k.capacity) table_is);
      key_size = ap (λ (p : Prefixes). p.key_size) trie_is ∙ sym (ap (λ (k : Kept). k.key_size) table_is);
      count = ap length list ∙ sym (ap (λ (n : ByKey (List ℕ)). map.len n) entries ∙ map.len-empty key_cmp (List ℕ));
      each = subst (All (λ other. map.contains_key table.entries other ≡ true)) (sym list) (All-nil _);
      bytes = subst (All AreBytes) (sym list) (All-nil _);
      back = λ other has. no_key table.entries other (ap (λ (n : ByKey (List ℕ)). map.get n other) entries ∙ map.get-empty key_cmp other) has;
    }

-- ---- an address is a stored prefix
fits_bits : (stored : List ℕ) (b : Bool) → has_its_bits stored ≡ b → is_at stored (if b then Some (stored_prefix stored) else None) ≡ true → (has_its_bits stored ≡ true) × (stored_prefix stored ≡ stored)
fits_bits stored true e at = (e, same_of (stored_prefix stored) stored at)
fits_bits stored false e at = cc

pub is_stored : (a : MapAttr) (stored : List ℕ) → a.kind ≡ LpmTrie → is_address a stored ≡ true → AreBytes stored → 4 ≤ length stored → length stored ≤ 260 → IsStored stored
is_stored a stored kind address bytes long short =
    let at : is_at stored (if has_its_bits stored then Some (stored_prefix stored) else None) ≡ true = sym (ap (λ k. is_at stored (if is_lpm k then (if has_its_bits stored then Some (stored_prefix stored) else None) else Some stored)) kind) ∙ address in
    let h = fits_bits stored (has_its_bits stored) refl at in
    record {
      size = short;
      bits = grind (arith, nat_tests, length-drop 4 stored, h.0);
      masked = append_cancel_left (take 4 stored) (masked (prefix_length stored) (prefix_data stored)) (prefix_data stored) (h.1 ∙ sym (take-append-drop 4 stored));
      bytes = bytes;
    }

pub has_bits : (key : List ℕ) → 4 ≤ length key → has_its_bits key ≡ true → prefix_length key + 32 ≤ 8 * length key
has_bits key long h = grind (arith, nat_tests, length-drop 4 key)

-- ---- the longest match
module _ (table : Kept) (trie : Prefixes) (key : List ℕ) (h : IsKeyed table trie) (k : AreKeys table.entries) where
  pub none_matches : All (λ stored. is_prefix_of key stored ≡ false) trie.stored → None ≡ longest_match table.entries key
  none_matches none = sym (cases (longest_match table.entries key) (finds_longest table.entries key))
    where
      not_both : {P : Type 0} (b : Bool) → b ≡ true → b ≡ false → P
      not_both b is apart = cc

      cases : (o : Option (List ℕ × List ℕ)) → MatchOption o (All (λ e. is_prefix_of key e.0 ≡ false) (map.entries table.entries)) (IsLongestMatch (map.entries table.entries) key) → o ≡ None
      cases None all = refl
      cases (Some f) best =
          not_both _ best.matches (All-contains (λ stored. is_prefix_of key stored ≡ false) trie.stored f.0 none (h.back f.0 (ap is_some (found_in table.entries f best.there))))

  -- the prefix that a trie finds
  pub best_is : (bits : ℕ) → IsLongest trie.stored key bits → (map.contains_key table.entries (prefix_of key bits) ≡ true) × (bits ≤ prefix_length key)
  best_is bits l =
      let there : map.contains_key table.entries l.best ≡ true = All-contains (λ stored. map.contains_key table.entries stored ≡ true) trie.stored l.best h.each l.there in
      held there (map.get table.entries l.best) refl
    where
      held : map.contains_key table.entries l.best ≡ true → (o : Option (List ℕ)) → map.get table.entries l.best ≡ o → (map.contains_key table.entries (prefix_of key bits) ≡ true) × (bits ≤ prefix_length key)
      held there None is = no_key table.entries l.best is there
      held there (Some value) is =
          let m = matches key l.best (k.long l.best value is) (k.bytes l.best value is) l.matches in
          let same : l.best ≡ prefix_of key bits = m.is ∙ ap (prefix_of key) l.is in
          (sym (ap (map.contains_key table.entries) same) ∙ there, omega (arith, m.length_within, l.is))

  pub none_above : (bits : ℕ) → prefix_length key < 2 ^ 32 → IsLongest trie.stored key bits → NoneAbove table.entries key bits
  none_above bits small l = record {
    within = (best_is bits l).1;
    absent = λ n above le. absent n above le (map.get table.entries (prefix_of key n)) refl;
  }
    where
      absent : (n : ℕ) → bits < n → n ≤ prefix_length key → (o : Option (List ℕ)) → map.get table.entries (prefix_of key n) ≡ o → o ≡ None
      absent n above le None is = refl
      absent n above le (Some value) is =
          let less : n < 2 ^ 32 = omega arith in
          let own : is_prefix_of key (prefix_of key n) ≡ true = prefix_of-matches key n less le in
          let most : prefix_length (prefix_of key n) ≤ bits = All-contains (λ other. is_prefix_of key other ≡ true → prefix_length other ≤ bits) trie.stored (prefix_of key n) l.longest (h.back (prefix_of key n) (ap is_some is)) own in
          absurd (omega (arith, most, length_of-prefix_of key n less))

  pub longest_there : (bits : ℕ) (prefix : List ℕ) → IsLongest trie.stored key bits → prefix ≡ prefix_of key bits → map.get table.entries prefix ≡ None → ⊥
  longest_there bits prefix l is none = no_key table.entries (prefix_of key bits) (sym (ap (map.get table.entries) is) ∙ none) (best_is bits l).0

pub added_as : (trie more : Prefixes) (stored bytes : List ℕ) → bytes ≡ stored → more ≡ record trie { stored = trie.stored ++ bytes ∷ [] } → more ≡ record trie { stored = trie.stored ++ stored ∷ [] }
added_as trie more stored bytes same is = is ∙ ap (λ (b : List ℕ). record trie { stored = trie.stored ++ b ∷ [] }) same
