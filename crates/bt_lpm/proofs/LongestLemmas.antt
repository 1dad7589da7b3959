-- The stored prefix of a key above which none is stored is the longest match.
use Rattle.std.proofs.Common.{◌≡◌, ℕ, ◌^◌, ◌<◌, ◌≤◌, Bool, true, false, List, [], length, get_or, ◌∷◌, Option, Some, None, cond, refl, sym, ap, ap₂, subst, ◌∙◌, arith, ◌⊎◌, inl, inr}
use Rattle.std.specs.Ordering.{eq_by_cmp}
use Rattle.std.specs.List.{All, Contains}
use Rattle.std.specs.Option.{MatchOption}
use Rattle.std.specs.FinMap as map
use Rattle.std.specs.FinMap.Entries.{find}
use Rattle.std.proofs.lemmas.Bool.{cases_lt}
use Rattle.std.proofs.lemmas.List.{get_or-map, length-map}
use Rattle.std.proofs.lemmas.List.Elements.{All-contains, Contains-append_left, Contains-append_right, Contains-push}
use Rattle.bt_mapkind.specs.Contents.{ByKey}
use Rattle.bt_mapkind.specs.Prefix.{prefix_length, is_prefix_of, longest_match}
use Rattle.bt_mapkind.specs.Laws.{IsLongestMatch}
use Rattle.bt_mapkind.specs.Well.{EachEntry}
use Rattle.bt_mapkind.proofs.Longest.{finds_longest}
use Rattle.bt_mapkind.proofs.Keyed.{same_of}
use Rattle.map_table.specs.Order.{key_cmp}
use Rattle.map_table.proofs.MapLemmas.{get_place}
use Rattle.bt_lpm.specs.Prefixes.{prefix_of}
use Rattle.bt_mapkind.specs.Bytes.{AreBytes}
use Rattle.bt_lpm.proofs.PrefixLemmas.{length_of-prefix_of, prefix_of-matches, Matches, matches}

abbrev Entry : Type 0
Entry = List ℕ × List ℕ

same_some : (x y : List ℕ) → Some x ≡ Some y → x ≡ y
same_some x y e = cc

-- ---- an entry among the entries
found_first : (key value : List ℕ) (x : Entry) (es : List Entry) → (find key_cmp key es ≡ Some value → Contains es (key, value)) → (b : Bool) → eq_by_cmp key_cmp key x.0 ≡ b → cond b (Some x.1) (find key_cmp key es) ≡ Some value → Contains (x ∷ es) (key, value)
found_first key value x es later true same e =
    subst (Contains (x ∷ es)) (ap₂ (λ (k v : List ℕ). (k, v)) (sym (same_of key x.0 same)) (same_some x.1 value e)) (Contains-append_left (x ∷ []) es x (Contains-push [] x))
found_first key value x es later false other e = Contains-append_right (x ∷ []) es (key, value) (later e)

find_there : (key value : List ℕ) (es : List Entry) → find key_cmp key es ≡ Some value → Contains es (key, value)
find_there key value [] e = cc
find_there key value (x ∷ es) e = found_first key value x es (find_there key value es) (eq_by_cmp key_cmp key x.0) refl e

there_in : (m : ByKey (List ℕ)) (key value : List ℕ) → Some value ≡ map.get m key → Contains (map.entries m) (key, value)
there_in m key value got = find_there key value (map.entries m) (sym (map.get-entries m key) ∙ sym got)

pub found_in : (m : ByKey (List ℕ)) (e : Entry) → Contains (map.entries m) e → map.get m e.0 ≡ Some e.1
found_in m e h =
    let place : ℕ = h.0 in
    let within : place < length (map.entries m) = h.1 in
    let is : get_or (map.entries m) place e ≡ e = h.2 in
    let key_is : get_or (map.keys m) place [] ≡ e.0 = get_or-map (λ (x : Entry). x.0) (map.entries m) place e [] within ∙ ap (λ (x : Entry). x.0) is in
    let value_is : get_or (map.values m) place [] ≡ e.1 = get_or-map (λ (x : Entry). x.1) (map.entries m) place e [] within ∙ ap (λ (x : Entry). x.1) is in
    get_place m e.0 place (record { within = omega (arith, within, length-map (map.entries m) (λ (x : Entry). x.0)); is = key_is }) ∙ ap Some value_is

-- ---- what is not stored
-- no stored prefix of a key is longer than so many bits
pub record NoneAbove (m : ByKey (List ℕ)) (key : List ℕ) (bits : ℕ) : Type 0 where
  pub within : bits ≤ prefix_length key
  pub absent : (n : ℕ) → bits < n → n ≤ prefix_length key → map.get m (prefix_of key n) ≡ None

-- every stored key is of bytes, at least the four of a length
pub record AreKeys (m : ByKey (List ℕ)) : Type 0 where
  pub long : EachEntry m (λ stored value. 4 ≤ length stored)
  pub bytes : EachEntry m (λ stored value. AreBytes stored)

not_both : {P : Type 0} (b : Bool) → b ≡ true → b ≡ false → P
not_both b is apart = cc

no_none : {P : Type 0} (x : List ℕ) → Some x ≡ None → P
no_none x e = cc

-- a match is a prefix of the key, and no longer than where the search has come
match_is : (m : ByKey (List ℕ)) (key : List ℕ) (bits : ℕ) (f : Entry) → AreKeys m → NoneAbove m key bits → Contains (map.entries m) f → is_prefix_of key f.0 ≡ true → Matches key f.0 × (prefix_length f.0 ≤ bits)
match_is m key bits f k s there is =
    let got : map.get m f.0 ≡ Some f.1 = found_in m f there in
    let own : Matches key f.0 = matches key f.0 (k.long f.0 f.1 got) (k.bytes f.0 f.1 got) is in
    (own, cases own got (cases_lt bits (prefix_length f.0)))
  where
    cases : Matches key f.0 → map.get m f.0 ≡ Some f.1 → (bits < prefix_length f.0) ⊎ (prefix_length f.0 ≤ bits) → prefix_length f.0 ≤ bits
    cases own got (inr le) = le
    cases own got (inl above) = no_none f.1 (sym got ∙ ap (map.get m) own.is ∙ s.absent (prefix_length f.0) above own.length_within)

-- ---- a stored prefix
pub found_longest : (m : ByKey (List ℕ)) (key prefix value : List ℕ) (bits : ℕ) → AreKeys m → NoneAbove m key bits → bits < 2 ^ 32 → prefix ≡ prefix_of key bits → Some value ≡ map.get m prefix → Some (prefix, value) ≡ longest_match m key
found_longest m key prefix value bits k s small is got = sym (cases (longest_match m key) (finds_longest m key))
  where
    there : Contains (map.entries m) (prefix, value)
    there = there_in m prefix value got

    own : is_prefix_of key prefix ≡ true
    own = ap (is_prefix_of key) is ∙ prefix_of-matches key bits small s.within

    long : prefix_length prefix ≡ bits
    long = ap prefix_length is ∙ length_of-prefix_of key bits small

    cases : (o : Option Entry) → MatchOption o (All (λ e. is_prefix_of key e.0 ≡ false) (map.entries m)) (IsLongestMatch (map.entries m) key) → o ≡ Some (prefix, value)
    cases None none = not_both _ own (All-contains (λ (e : Entry). is_prefix_of key e.0 ≡ false) (map.entries m) (prefix, value) none there)
    cases (Some f) best =
        let h = match_is m key bits f k s best.there best.matches in
        let le : prefix_length prefix ≤ prefix_length f.0 = All-contains (λ (e : Entry). is_prefix_of key e.0 ≡ true → prefix_length e.0 ≤ prefix_length f.0) (map.entries m) (prefix, value) best.longest there own in
        let under : prefix_length f.0 ≤ bits = h.1 in
        let same : prefix_length f.0 ≡ bits = omega (arith, le, under, long) in
        let key_is : f.0 ≡ prefix = h.0.is ∙ ap (prefix_of key) same ∙ sym is in
        let value_is : Some f.1 ≡ Some value = sym (found_in m f best.there) ∙ ap (map.get m) key_is ∙ sym got in
        ap Some (ap₂ (λ a b. (a, b)) key_is (same_some f.1 value value_is))
