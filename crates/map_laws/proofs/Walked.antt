-- A walk by `next` goes over the keys of a map, and a dump lists them.
use Rattle.std.proofs.Common.{◌≡◌, ℕ, zero, suc, ◌+◌, ◌<◌, ◌≤◌, Bool, true, false, ◌==◌, ◌&&◌, ◌||◌, cond, if◌then◌else◌, List, [], ◌∷◌, ◌++◌, length, slice_get, Option, Some, None, is_some, Ok, nat_le, refl, ap, sym, subst, ◌∙◌, arith, ◌⊎◌, inl, inr, map as each, T}
use Rattle.std.proofs.lemmas.Bool.Decides.{nat_tests}
use Rattle.std.proofs.lemmas.List.{append_assoc}
use Rattle.std.proofs.lemmas.Option.{slice_get-map}
use Rattle.std.proofs.lemmas.Nat.{from_le_bytes-to_le_bytes_4}
use Rattle.std.specs.List.{enumerate_from, find, list_any}
use Rattle.std.specs.Option.{option_map}
use Rattle.std.specs.Ordering.{nat_cmp, is_lt, eq_by_cmp, ordering_reverse}
use Rattle.std.specs.declared.cmp.Ordering.{Ordering}
use Rattle.std.specs.declared.cmp.Ordering.TheVariants.{Less, Equal, Greater}
use Rattle.std.specs.Cmp.{tied_itself}
use Rattle.std.specs.Cmp.Lexicographic.{slice_cmp, nat_list_cmp_total}
use Rattle.std.specs.FinMap as map
use Rattle.std.specs.FinMap.Entries.{is_sorted, below_all}
use Rattle.bt_mapkind.specs.declared.attr.MapAttr.{MapAttr}
use Rattle.bt_mapkind.specs.declared.attr.MapType.{MapType}
use Rattle.bt_mapkind.specs.declared.attr.MapType.TheVariants.{Array, Hash, LpmTrie, Queue, Stack, ArrayOfMaps, ProgArray, HashOfMaps}
use Rattle.bt_mapkind.specs.declared.request.Query.TheVariants.{Next}
use Rattle.bt_mapkind.specs.declared.request.MapReply.TheVariants.{Nothing, Key}
use Rattle.bt_mapkind.specs.Attributes.{suits_type, is_within}
use Rattle.bt_mapkind.specs.Contents.{Contents, ByKey, Values, Entries, Items, Slots, Links}
use Rattle.bt_mapkind.specs.Index.{index_of}
use Rattle.bt_mapkind.specs.Prefix.{address}
use Rattle.bt_mapkind.specs.Exchange.{is_at}
use Rattle.bt_mapkind.specs.Read.{key_of_index, next_fits, next_index, next_key, first_key, key_above, key_found, value_found, found, found_at, filled_keys, map_read}
use Rattle.bt_mapkind.specs.Well.{IsWell, OfValues, OfSlots, shape_of_type}
use Rattle.map_laws.specs.Walk.{Walks, index_keys, key_in_reply}
use Rattle.map_laws.specs.Laws.{WalksItsKeys, DumpsItsKeys}
use Rattle.bt_mapkind.proofs.Stays.{no_fit, key_fits_of}
use Rattle.bt_mapkind.proofs.Keyed.{is_same-itself, same_of}
use Rattle.map_laws.proofs.Found.{fits_reads}

-- ---- keys that ascend
true_of : (b : Bool) → T b → b ≡ true
true_of true h = refl
true_of false h = absurd h

pub left_of : (p q : Bool) → T (p && q) → T p
left_of true q h = tt
left_of false q h = absurd h

pub right_of : (p q : Bool) → T (p && q) → T q
right_of true q h = h
right_of false q h = absurd h

not_both : (o : Ordering) → T (is_lt o) → is_lt (ordering_reverse o) ≡ false
not_both Less h = refl
not_both Equal h = absurd h
not_both Greater h = absurd h

abbrev pub key_part : {X : Type 0} → List (List ℕ × X) → List (List ℕ)
key_part es = each (λ e. e.0) es

abbrev is_above : List ℕ → List ℕ → Bool
is_above key other = is_lt (slice_cmp nat_cmp key other)

below_in : {X : Type 0} (key : List ℕ) (before : List (List ℕ × X)) (e : List ℕ × X) (after : List (List ℕ × X)) → T (below_all (slice_cmp nat_cmp) key (before ++ e ∷ after)) → T (is_above key e.0)
below_in key [] e after h = left_of _ _ h
below_in key (p ∷ before) e after h = below_in key before e after (right_of _ _ h)

head_above : {X : Type 0} (key : List ℕ) (after : List (List ℕ × X)) → T (below_all (slice_cmp nat_cmp) key after) → find (is_above key) (key_part after) ≡ slice_get (key_part after) 0
head_above key [] h = refl
head_above key (p ∷ after) h = ap (λ b. cond b (Some p.0) (find (is_above key) (key_part after))) (true_of _ (left_of _ _ h))

-- the first key above one that is there is the next one
above_in : {X : Type 0} (before : List (List ℕ × X)) (e : List ℕ × X) (after : List (List ℕ × X)) → T (is_sorted (slice_cmp nat_cmp) (before ++ e ∷ after)) → find (is_above e.0) (key_part (before ++ e ∷ after)) ≡ slice_get (key_part after) 0
above_in [] e after h =
    ap (λ b. cond b (Some e.0) (find (is_above e.0) (key_part after))) (ap is_lt (tied_itself nat_list_cmp_total e.0))
    ∙ head_above e.0 after (left_of _ _ h)
above_in (p ∷ before) e after h =
    ap (λ b. cond b (Some p.0) (find (is_above e.0) (key_part (before ++ e ∷ after))))
    (ap is_lt (nat_list_cmp_total.antisymm e.0 p.0) ∙ not_both _ (below_in p.0 before e after (left_of _ _ h)))
    ∙ above_in before e after (right_of _ _ h)

or_true : (p : Bool) → p || true ≡ true
or_true true = refl
or_true false = refl

any_in : {X : Type 0} (before : List (List ℕ × X)) (e : List ℕ × X) (after : List (List ℕ × X)) → list_any (eq_by_cmp (slice_cmp nat_cmp) e.0) (key_part (before ++ e ∷ after)) ≡ true
any_in [] e after = ap (λ b. b || list_any (eq_by_cmp (slice_cmp nat_cmp) e.0) (key_part after)) (is_same-itself e.0)
any_in (p ∷ before) e after = ap (λ b. eq_by_cmp (slice_cmp nat_cmp) e.0 p.0 || b) (any_in before e after) ∙ or_true _

-- ---- a walk over a map by key
-- after a key that is there comes the least key above it
abbrev GivesAbove : {X : Type 0} → MapAttr → Contents → ByKey X → Type 0
GivesAbove a c m = (key : List ℕ) → map.contains_key m key ≡ true → map_read a c (Next (Some key)) ≡ Ok (key_above m key)

step_on : {X : Type 0} (a : MapAttr) (c : Contents) (m : ByKey X) → GivesAbove a c m → (before : List (List ℕ × X)) (e : List ℕ × X) (after : List (List ℕ × X)) → map.entries m ≡ before ++ e ∷ after
    → map_read a c (Next (Some e.0)) ≡ Ok (key_found (slice_get (key_part after) 0))
step_on a c m next before e after is =
    next e.0 (map.contains_key-keys m e.0 ∙ ap (λ es. list_any (eq_by_cmp (slice_cmp nat_cmp) e.0) (key_part es)) is ∙ any_in before e after)
    ∙ ap (λ es. Ok (key_found (find (is_above e.0) (key_part es)))) is
    ∙ ap (λ k. Ok (key_found k)) (above_in before e after (subst (λ es. T (is_sorted (slice_cmp nat_cmp) es)) is (map.entries_sorted m)))

walk_on : {X : Type 0} (a : MapAttr) (c : Contents) (m : ByKey X) → GivesAbove a c m → (before : List (List ℕ × X)) (e : List ℕ × X) (after : List (List ℕ × X)) → map.entries m ≡ before ++ e ∷ after → Walks a c (Some e.0) (key_part after)
walk_on a c m next before e [] is = step_on a c m next before e [] is
walk_on a c m next before e (p ∷ after) is =
    (step_on a c m next before e (p ∷ after) is, walk_on a c m next (before ++ e ∷ []) p after (is ∙ sym (append_assoc before (e ∷ []) (p ∷ after))))

walk_all : {X : Type 0} (a : MapAttr) (c : Contents) (m : ByKey X) → GivesAbove a c m → map_read a c (Next None) ≡ Ok (first_key m) → (es : List (List ℕ × X)) → map.entries m ≡ es → Walks a c None (key_part es)
walk_all a c m next first [] is = first ∙ ap (λ es. Ok (key_found (slice_get (key_part es) 0))) is
walk_all a c m next first (e ∷ es) is = (first ∙ ap (λ es. Ok (key_found (slice_get (key_part es) 0))) is, walk_on a c m next [] e es is)

some_of : {X : Type 0} (o : Option X) → is_some o ≡ true → (x : X) × (o ≡ Some x)
some_of None e = no_fit e
some_of (Some x) e = (x, refl)

address_of : (key : List ℕ) (s : Option (List ℕ)) → is_at key s ≡ true → s ≡ Some key
address_of key None e = no_fit e
address_of key (Some stored) e = ap Some (same_of stored key e)

entries_give : (a : MapAttr) (m : ByKey (List ℕ)) → IsWell a (Entries m) → GivesAbove a (Entries m) m
entries_give a m w key there =
    let x = some_of (map.get m key) there in
    let entry = w.sizes.1 key x.0 x.1 in
    fits_reads (next_fits a (Some key)) _ (key_fits_of a key entry.key_size)
    ∙ ap (λ s. Ok (next_key m s)) (address_of key (address a key) entry.stands)
    ∙ ap (λ (b : Bool). Ok (if b then key_above m key else first_key m)) there

links_give : (a : MapAttr) (m : ByKey ℕ) → IsWell a (Links m) → GivesAbove a (Links m) m
links_give a m w key there =
    let x = some_of (map.get m key) there in
    fits_reads (next_fits a (Some key)) _ (key_fits_of a key (w.sizes.1 key x.0 x.1))
    ∙ ap (λ (b : Bool). Ok (if b then key_above m key else first_key m)) there

-- ---- a walk over indices
length-key_of_index : (n : ℕ) → length (key_of_index n) ≡ 4
unfolding key_of_index
length-key_of_index n = refl

pub index_of-key_of_index : (n : ℕ) → n ≤ 65536 → index_of (key_of_index n) ≡ n
unfolding index_of key_of_index
index_of-key_of_index n le = from_le_bytes-to_le_bytes_4 n (omega arith)

-- the index after a key's is as the table says
abbrev GivesIndex : MapAttr → Contents → ℕ → Type 0
GivesIndex a c n = (key : Option (List ℕ)) → next_fits a key ≡ true → map_read a c (Next key) ≡ Ok (next_index n key)

next_at : (n i : ℕ) → i < n → n ≤ 65536 → next_index n (Some (key_of_index i)) ≡ (if nat_le n (i + 1) then Nothing else Key (key_of_index (i + 1)))
next_at n i below le =
    ap (λ j. if nat_le n j then (if n == 0 then Nothing else Key (key_of_index 0)) else if nat_le n (j + 1) then Nothing else Key (key_of_index (j + 1))) (index_of-key_of_index i (omega arith))
    ∙ ap (λ (b : Bool). if b then (if n == 0 then Nothing else Key (key_of_index 0)) else if nat_le n (i + 1) then Nothing else Key (key_of_index (i + 1))) (not_past n i below)
  where
    not_past : (n i : ℕ) → i < n → nat_le n i ≡ false
    not_past n i below = grind (arith, nat_tests)

past_last : (n i : ℕ) → i + 1 ≡ n → nat_le n (i + 1) ≡ true
past_last n i e = grind (arith, nat_tests)

not_last : (n i : ℕ) → i + 1 < n → nat_le n (i + 1) ≡ false
not_last n i e = grind (arith, nat_tests)

not_zero : (n : ℕ) → 0 < n → (n == 0) ≡ false
not_zero n e = grind (arith, nat_tests)

walk_from : {X : Type 0} (a : MapAttr) (c : Contents) (n : ℕ) → GivesIndex a c n → a.key_size ≡ 4 → n ≤ 65536 → (i : ℕ) (xs : List X) → i + 1 + length xs ≡ n → Walks a c (Some (key_of_index i)) (each (λ e. key_of_index e.0) (enumerate_from (i + 1) xs))
walk_from a c n next four le i [] long =
    next (Some (key_of_index i)) (key_fits_of a (key_of_index i) (length-key_of_index i ∙ sym four)) ∙ ap Ok (next_at n i (omega arith) le)
    ∙ ap (λ (b : Bool). Ok (if b then Nothing else Key (key_of_index (i + 1)))) (past_last n i (omega arith))
walk_from a c n next four le i (x ∷ xs) long = (
  next (Some (key_of_index i)) (key_fits_of a (key_of_index i) (length-key_of_index i ∙ sym four)) ∙ ap Ok (next_at n i (omega arith) le)
      ∙ ap (λ (b : Bool). Ok (if b then Nothing else Key (key_of_index (i + 1)))) (not_last n i (omega arith)),
  walk_from a c n next four le (i + 1) xs (omega arith),
)

walk_indices : {X : Type 0} (a : MapAttr) (c : Contents) (xs : List X) → GivesIndex a c (length xs) → a.key_size ≡ 4 → length xs ≤ 65536 → Walks a c None (index_keys xs)
walk_indices a c [] next four le = next None refl
walk_indices a c (x ∷ xs) next four le = (
  next None refl ∙ ap (λ (b : Bool). Ok (if b then Nothing else Key (key_of_index 0))) (not_zero (length (x ∷ xs)) (omega arith)),
  walk_from a c (length (x ∷ xs)) next four le 0 xs (omega arith),
)

pub three : (p q r : Bool) → p && q && r ≡ true → (p ≡ true) × (q ≡ true) × (r ≡ true)
three true true true e = (refl, refl, refl)
three true true false e = cc
three true false r e = cc
three false q r e = cc

pub within_of : (low high n : ℕ) → is_within low high n ≡ true → n ≤ high
within_of low high n e = grind (arith, nat_tests, e)

four_of : (kind : MapType) (key value flags : ℕ) → shape_of_type kind ≡ OfValues ⊎ shape_of_type kind ≡ OfSlots → suits_type kind key value flags ≡ true → key ≡ 4
four_of Array key value flags is e = grind (arith, nat_tests, e)
four_of ArrayOfMaps key value flags is e = grind (arith, nat_tests, e)
four_of ProgArray key value flags is e = grind (arith, nat_tests, e)
four_of Hash key value flags (inl is) e = cc
four_of Hash key value flags (inr is) e = cc
four_of LpmTrie key value flags (inl is) e = cc
four_of LpmTrie key value flags (inr is) e = cc
four_of Queue key value flags (inl is) e = cc
four_of Queue key value flags (inr is) e = cc
four_of Stack key value flags (inl is) e = cc
four_of Stack key value flags (inr is) e = cc
four_of HashOfMaps key value flags (inl is) e = cc
four_of HashOfMaps key value flags (inr is) e = cc

-- ---- any map
pub walks_its_keys : (a : MapAttr) (c : Contents) → WalksItsKeys a c
walks_its_keys a (Values vs) w g keyed =
    let h = three _ _ _ g in
    walk_indices a (Values vs) vs (λ key fits. fits_reads (next_fits a key) _ fits) (four_of a.kind a.key_size a.value_size a.flags (inl w.shape) h.2)
    (subst (λ n. n ≤ 65536) (sym w.sizes.0) (within_of 1 65536 a.max_entries h.1))
walks_its_keys a (Entries m) w g keyed = walk_all a (Entries m) m (entries_give a m w) refl (map.entries m) refl
walks_its_keys a (Items xs) w g keyed = absurd (keyed refl)
walks_its_keys a (Slots ls) w g keyed =
    let h = three _ _ _ g in
    walk_indices a (Slots ls) ls (λ key fits. fits_reads (next_fits a key) _ fits) (four_of a.kind a.key_size a.value_size a.flags (inr w.shape) h.2)
    (subst (λ n. n ≤ 65536) (sym w.sizes) (within_of 1 65536 a.max_entries h.1))
walks_its_keys a (Links m) w g keyed = walk_all a (Links m) m (links_give a m w) refl (map.entries m) refl

-- ---- a dump
named_found : (o : Option (List ℕ × List ℕ)) → key_in_reply (found o) ≡ option_map (λ e. e.0) o
named_found None = refl
named_found (Some e) = refl

named_key : (o : Option (List ℕ)) → key_in_reply (key_found o) ≡ o
named_key None = refl
named_key (Some key) = refl

named_value : (o : Option (List ℕ)) → key_in_reply (value_found o) ≡ None
named_value None = refl
named_value (Some value) = refl

-- the key of an index that is there
named_index : (vs : List (List ℕ)) (first n : ℕ) → key_in_reply (found_at (key_of_index (first + n)) (slice_get vs n)) ≡ slice_get (each (λ e. key_of_index e.0) (enumerate_from first vs)) n
named_index [] first n = refl
named_index (v ∷ vs) first zero = ap (λ k. Some (key_of_index k)) (plus_zero first)
  where
    plus_zero : (k : ℕ) → k + 0 ≡ k
    plus_zero k = omega arith
named_index (v ∷ vs) first (suc n) =
    ap (λ k. key_in_reply (found_at (key_of_index k) (slice_get vs n))) (carried first n) ∙ named_index vs (first + 1) n
  where
    carried : (k n : ℕ) → k + suc n ≡ k + 1 + n
    carried k n = omega arith

pub dumps_its_keys : (a : MapAttr) (c : Contents) (n : ℕ) → DumpsItsKeys a c n
dumps_its_keys a (Values vs) n =
    ap (λ k. key_in_reply (found_at (key_of_index k) (slice_get vs n))) (zero_plus n) ∙ named_index vs 0 n
  where
    zero_plus : (n : ℕ) → n ≡ 0 + n
    zero_plus n = omega arith
dumps_its_keys a (Entries m) n = named_found (slice_get (map.entries m) n) ∙ sym (slice_get-map (λ e. e.0) (map.entries m) n)
dumps_its_keys a (Items xs) n = named_value (slice_get xs n)
dumps_its_keys a (Slots ls) n = named_key (slice_get (filled_keys ls) n)
dumps_its_keys a (Links m) n = named_key (slice_get (map.keys m) n)
