-- The ids of a map of ids are what its elements lead to.
use Rattle.std.proofs.Common.{◌≡◌, ◌+◌, ◌<◌, ◌≤◌, ℕ, zero, suc, Bool, true, false, ◌&&◌, not, ◌==◌, nat_le, List, [], ◌∷◌, ◌++◌, length, map as each, Option, Some, None, Ok, Err, cond, is_some, T, refl, sym, ap, subst, ◌∙◌, arith}
use Rattle.std.specs.Prelude.{⊤, if◌then◌else◌, slice_get, slice_index_or}
use Rattle.std.specs.Option.{option_map, option_to_list}
use Rattle.std.specs.List.{filter, filter_map, enumerate_from, range_with_len, AllByRecursion}
use Rattle.std.proofs.lemmas.List.{length-map}
use Rattle.std.proofs.lemmas.List.Elements.{filter_map-append}
use Rattle.std.proofs.lemmas.Nat.{from_le_bytes-to_le_bytes_4}
use Rattle.std.proofs.lemmas.Bool.Decides.{nat_tests}
use Rattle.std.specs.declared.cmp.Ordering.{Ordering}
use Rattle.std.specs.declared.cmp.Ordering.TheVariants.{Less, Equal, Greater}
use Rattle.std.specs.Ordering.{nat_cmp, is_eq, is_lt, eq_by_cmp, ordering_reverse}
use Rattle.std.specs.Cmp.{tied_itself}
use Rattle.std.specs.Cmp.Lexicographic.{slice_cmp, nat_list_cmp_total}
use Rattle.std.specs.FinMap as map
use Rattle.std.specs.FinMap.{find}
use Rattle.std.specs.FinMap.Entries.{is_sorted, below_all}
use Rattle.bt_mapkind.specs.declared.attr.MapAttr.{MapAttr}
use Rattle.bt_mapkind.specs.declared.attr.MapType.{MapType}
use Rattle.bt_mapkind.specs.declared.attr.MapType.TheVariants.{Array, Hash, LpmTrie, Queue, Stack, ArrayOfMaps, ProgArray, HashOfMaps}
use Rattle.bt_mapkind.specs.declared.errno.Errno.TheVariants.{EINVAL}
use Rattle.bt_mapkind.specs.declared.request.Query.TheVariants.{Lookup, Item}
use Rattle.bt_mapkind.specs.Attributes.{good, suits_type, is_within}
use Rattle.bt_mapkind.specs.Contents.{Contents, ByKey, Values, Entries, Items, Slots, Links}
use Rattle.bt_mapkind.specs.Index.{index_of}
use Rattle.bt_mapkind.specs.Read.{map_read, key_of_index, filled_keys, link_found, key_found}
use Rattle.bt_mapkind.specs.Well.{IsWell, EachEntry, Shape, OfValues, OfEntries, OfItems, OfSlots, OfLinks, shape_of_type, shape_of}
use Rattle.bt_mapkind.proofs.Stays.{both_true}
use Rattle.host_state.specs.Settled.{ids_in}
use Rattle.bt_mapkind.specs.Inner.{holds_ids}
use Rattle.host_state.specs.Ask.{element_of, count_of, id_told}
use Rattle.host_retirement.specs.Gathered.{key_told}

abbrev HoldsIds : Shape → Type 0
HoldsIds OfValues = ⊥
HoldsIds OfEntries = ⊥
HoldsIds OfItems = ⊥
HoldsIds OfSlots = ⊤
HoldsIds OfLinks = ⊤

pub one_kept : {X Y : Type 0} (f : X → Option Y) (x : X) → filter_map f (x ∷ []) ≡ option_to_list (f x)
one_kept {X} {Y} f x = cases (f x)
  where
    cases : (o : Option Y) → filter_map (λ (x : X). o) (x ∷ []) ≡ option_to_list o
    cases None = refl
    cases (Some y) = refl

abbrev slot_at : List (Option ℕ) → ℕ → Option ℕ
slot_at ls i = slice_index_or ls i None

abbrev ids_of : List (Option ℕ) → List ℕ
ids_of ls = filter_map (λ (slot : Option ℕ). slot) ls

-- ---- slots
index_back : (n : ℕ) → n < 4294967296 → index_of (key_of_index n) ≡ n
unfolding index_of key_of_index
index_back n below = from_le_bytes-to_le_bytes_4 n below

four_long : (n : ℕ) → length (key_of_index n) ≡ 4
unfolding key_of_index
four_long n = refl

-- the filled ones from a place on hold the ids from there on
filled_from : (ls xs : List (Option ℕ)) (k : ℕ) → k + length xs ≤ 65536 → ((i : ℕ) → slot_at ls (k + i) ≡ slot_at xs i)
    → each (λ (e : ℕ × Option ℕ). slot_at ls (index_of (key_of_index e.0))) (filter (λ (e : ℕ × Option ℕ). is_some e.1) (enumerate_from k xs)) ≡ each Some (ids_of xs)
filled_from ls [] k fits same = refl
filled_from ls (None ∷ xs) k fits same =
    let fits_on : (k + 1) + length xs ≤ 65536 = omega (arith, fits) in
    filled_from ls xs (k + 1) fits_on (λ i. let on : (k + 1) + i ≡ k + suc i = omega arith in ap (slot_at ls) on ∙ same (suc i))
filled_from ls (Some id ∷ xs) k fits same =
    let fits_on : (k + 1) + length xs ≤ 65536 = omega (arith, fits) in
    let below : k < 4294967296 = omega (arith, fits) in
    let here : k ≡ k + 0 = omega arith in
    let rest = filled_from ls xs (k + 1) fits_on (λ i. let on : (k + 1) + i ≡ k + suc i = omega arith in ap (slot_at ls) on ∙ same (suc i)) in
    λ j. (ap (slot_at ls) (index_back k below ∙ here) ∙ same 0) j ∷ rest j

each-each : {X Y Z : Type 0} (f : Y → Z) (g : X → Y) (xs : List X) → each f (each g xs) ≡ each (λ x. f (g x)) xs
each-each f g [] = refl
each-each f g (x ∷ xs) = ap (λ ys. f (g x) ∷ ys) (each-each f g xs)

pub slots_ids : (ls : List (Option ℕ)) → length ls ≤ 65536 → each (λ key. slot_at ls (index_of key)) (filled_keys ls) ≡ each Some (ids_of ls)
slots_ids ls fits =
    each-each (λ key. slot_at ls (index_of key)) (λ (e : ℕ × Option ℕ). key_of_index e.0) (filter (λ (e : ℕ × Option ℕ). is_some e.1) (enumerate_from 0 ls))
    ∙ filled_from ls ls 0 (let within : 0 + length ls ≤ 65536 = omega (arith, fits) in within) (λ i. let same : 0 + i ≡ i = omega arith in ap (slot_at ls) same)

-- ---- a hash of maps
below_still : {X : Type 0} (k : List ℕ) (v : X) (fs es : List (List ℕ × X)) → below_all (slice_cmp nat_cmp) k es ≡ true → AllByRecursion (λ e. find (slice_cmp nat_cmp) e.0 fs ≡ Some e.1) es
    → AllByRecursion (λ e. find (slice_cmp nat_cmp) e.0 ((k, v) ∷ fs) ≡ Some e.1) es
below_still k v fs [] below all = tt
below_still {X} k v fs (e ∷ es) below all =
    let p = both_true (is_lt (slice_cmp nat_cmp k e.0)) (below_all (slice_cmp nat_cmp) k es) below in
    (ap (λ b. cond b (Some v) (find (slice_cmp nat_cmp) e.0 fs)) (apart (slice_cmp nat_cmp k e.0) refl p.0) ∙ all.0, below_still k v fs es p.1 all.1)
  where
    apart : (o : Ordering) → slice_cmp nat_cmp k e.0 ≡ o → is_lt o ≡ true → eq_by_cmp (slice_cmp nat_cmp) e.0 k ≡ false
    apart Less is less = ap is_eq (nat_list_cmp_total.antisymm e.0 k ∙ ap ordering_reverse is)
    apart Equal is less = cc
    apart Greater is less = cc

-- each entry is found under its key
pub found_all : {X : Type 0} (es : List (List ℕ × X)) → is_sorted (slice_cmp nat_cmp) es ≡ true → AllByRecursion (λ e. find (slice_cmp nat_cmp) e.0 es ≡ Some e.1) es
found_all [] sorted = tt
found_all (e ∷ es) sorted =
    let p = both_true (below_all (slice_cmp nat_cmp) e.0 es) (is_sorted (slice_cmp nat_cmp) es) sorted in
    (ap (λ b. cond b (Some e.1) (find (slice_cmp nat_cmp) e.0 es)) (ap is_eq (tied_itself nat_list_cmp_total e.0)), below_still e.0 e.1 es es p.0 (found_all es p.1))

pub sorted_true : (b : Bool) → T b → b ≡ true
sorted_true true t = refl
sorted_true false t = absurd t

keys_values : (f : List ℕ → Option ℕ) (es : List (List ℕ × ℕ)) → AllByRecursion (λ e. f e.0 ≡ Some e.1) es → each f (each (λ (e : List ℕ × ℕ). e.0) es) ≡ each Some (each (λ (e : List ℕ × ℕ). e.1) es)
keys_values f [] all = refl
keys_values f (e ∷ es) all = λ i. all.0 i ∷ keys_values f es all.1 i

all_but : {X : Type 0} (P Q : X → Type 0) (xs : List X) → ((x : X) → P x → Q x) → AllByRecursion P xs → AllByRecursion Q xs
all_but P Q [] to all = tt
all_but P Q (x ∷ xs) to all = (to x all.0, all_but P Q xs to all.1)

-- ---- what the elements of a map of ids lead to
abbrev told_under : MapAttr → Contents → List ℕ → Option ℕ
told_under a c key = id_told (element_of (map_read a c (Lookup key)))

abbrev key_of_element : MapAttr → Contents → ℕ → Option (List ℕ)
key_of_element a c n = key_told (element_of (map_read a c (Item n)))

link_told : (o : Option ℕ) → id_told (link_found o) ≡ o
link_told None = refl
link_told (Some id) = refl

key_is_told : (o : Option (List ℕ)) → key_told (key_found o) ≡ o
key_is_told None = refl
key_is_told (Some key) = refl

pub record HasKeys (a : MapAttr) (c : Contents) : Type 0 where
  pub keys : List (List ℕ)
  pub ids : each (told_under a c) keys ≡ each Some (ids_in c)
  pub elements : (n : ℕ) → key_of_element a c n ≡ slice_get keys n
  pub count : count_of a c ≡ length keys

each_alike : {X Y : Type 0} (f g : X → Y) (xs : List X) → ((x : X) → f x ≡ g x) → each f xs ≡ each g xs
each_alike f g [] same = refl
each_alike f g (x ∷ xs) same = λ i. same x i ∷ each_alike f g xs same i

slots_have : (a : MapAttr) (ls : List (Option ℕ)) → a.key_size ≡ 4 → length ls ≤ 65536 → HasKeys a (Slots ls)
slots_have a ls four fits = record {
  keys = filled_keys ls;
  ids = each-each (told_under a (Slots ls)) index_key filled
      ∙ each_alike (λ e. told_under a (Slots ls) (index_key e)) (λ e. slot_at ls (index_of (index_key e))) filled (λ e. told e.0)
      ∙ sym (each-each (λ key. slot_at ls (index_of key)) index_key filled)
      ∙ slots_ids ls fits;
  elements = λ n. key_is_told (slice_get (filled_keys ls) n);
  count = refl;
}
  where
    filled : List (ℕ × Option ℕ)
    filled = filter (λ (e : ℕ × Option ℕ). is_some e.1) (enumerate_from 0 ls)

    index_key : ℕ × Option ℕ → List ℕ
    index_key e = key_of_index e.0

    told : (n : ℕ) → told_under a (Slots ls) (key_of_index n) ≡ slot_at ls (index_of (key_of_index n))
    told n = tests (length (key_of_index n) == a.key_size) (ap (λ k. k == a.key_size) (four_long n) ∙ ap (λ k. 4 == k) four)
      where
        tests : (b : Bool) → b ≡ true → id_told (element_of (if not b then Err EINVAL else Ok (link_found (slot_at ls (index_of (key_of_index n)))))) ≡ slot_at ls (index_of (key_of_index n))
        tests true e = link_told (slot_at ls (index_of (key_of_index n)))
        tests false e = cc

links_have : (a : MapAttr) (m : ByKey ℕ) → EachEntry m (λ key id. length key ≡ a.key_size) → HasKeys a (Links m)
links_have a m sized = record {
  keys = map.keys m;
  ids = keys_values (told_under a (Links m)) (map.entries m)
      (all_but (λ e. find (slice_cmp nat_cmp) e.0 (map.entries m) ≡ Some e.1) (λ e. told_under a (Links m) e.0 ≡ Some e.1) (map.entries m)
      (λ e found. told e.0 e.1 (map.get-entries m e.0 ∙ found)) (found_all (map.entries m) (sorted_true _ (map.entries_sorted m))));
  elements = λ n. key_is_told (slice_get (map.keys m) n);
  count = counted;
}
  where
    told : (key : List ℕ) (id : ℕ) → map.get m key ≡ Some id → told_under a (Links m) key ≡ Some id
    told key id there = tests (length key == a.key_size) (long (sized key id there))
      where
        tests : (b : Bool) → b ≡ true → id_told (element_of (if not b then Err EINVAL else Ok (link_found (map.get m key)))) ≡ Some id
        tests true e = link_told (map.get m key) ∙ there
        tests false e = cc

        long : length key ≡ a.key_size → (length key == a.key_size) ≡ true
        long e = grind (arith, nat_tests, e)

    counted : count_of a (Links m) ≡ length (map.keys m)
    counted = map.len-entries m ∙ sym (length-map (map.entries m) (λ (e : List ℕ × ℕ). e.0))

four_bytes : (a : MapAttr) → (kind : MapType) → a.kind ≡ kind → shape_of_type kind ≡ OfSlots → good a ≡ true → a.key_size ≡ 4
four_bytes a kind is shape fine = by kind shape (ap (λ k. suits_type k a.key_size a.value_size a.flags) (sym is) ∙ suits)
  where
    suits : suits_type a.kind a.key_size a.value_size a.flags ≡ true
    suits = (both_true (is_within 1 256 a.value_size && is_within 1 65536 a.max_entries) (suits_type a.kind a.key_size a.value_size a.flags) fine).1

    is_four : (a.key_size == 4) && (a.value_size == 4) && (a.flags == 0) ≡ true → a.key_size ≡ 4
    is_four e =
        let p = both_true (a.key_size == 4) (a.value_size == 4) (both_true ((a.key_size == 4) && (a.value_size == 4)) (a.flags == 0) e).0 in grind (arith, nat_tests, p.0)

    by : (kind : MapType) → shape_of_type kind ≡ OfSlots → suits_type kind a.key_size a.value_size a.flags ≡ true → a.key_size ≡ 4
    by Array shape e = cc
    by Hash shape e = cc
    by LpmTrie shape e = cc
    by Queue shape e = cc
    by Stack shape e = cc
    by ArrayOfMaps shape e = is_four e
    by ProgArray shape e = is_four e
    by HashOfMaps shape e = cc

within_limit : (a : MapAttr) → good a ≡ true → a.max_entries ≤ 65536
within_limit a fine =
    let p = both_true (is_within 1 256 a.value_size) (is_within 1 65536 a.max_entries) (both_true (is_within 1 256 a.value_size && is_within 1 65536 a.max_entries) (suits_type a.kind a.key_size a.value_size a.flags) fine).0 in
    let q = both_true (nat_le 1 a.max_entries) (nat_le a.max_entries 65536) p.1 in
    grind (arith, nat_tests, q.1)

-- contents of bytes are none of a map of ids
no_bytes : (kind : MapType) → holds_ids kind ≡ true → (shape : Shape) → shape_of_type kind ≡ shape → HoldsIds shape
no_bytes Array e shape s = cc
no_bytes Hash e shape s = cc
no_bytes LpmTrie e shape s = cc
no_bytes Queue e shape s = cc
no_bytes Stack e shape s = cc
no_bytes ArrayOfMaps e shape s = subst HoldsIds s tt
no_bytes ProgArray e shape s = subst HoldsIds s tt
no_bytes HashOfMaps e shape s = subst HoldsIds s tt

pub has_keys : (a : MapAttr) (c : Contents) → IsWell a c → good a ≡ true → holds_ids a.kind ≡ true → HasKeys a c
has_keys a (Values vs) w fine ids = absurd (no_bytes a.kind ids OfValues w.shape)
has_keys a (Entries m) w fine ids = absurd (no_bytes a.kind ids OfEntries w.shape)
has_keys a (Items xs) w fine ids = absurd (no_bytes a.kind ids OfItems w.shape)
has_keys a (Slots ls) w fine ids = let limit = within_limit a fine in let sizes = w.sizes in slots_have a ls (four_bytes a a.kind refl w.shape fine) (omega (arith, limit, sizes))
has_keys a (Links m) w fine ids = links_have a m w.sizes.1

-- ---- what is read one by one is the list
abbrev and_then : {K X : Type 0} → (K → Option X) → Option K → Option X
and_then f None = None
and_then f (Some k) = f k

read_in_turn : {K X : Type 0} (f : K → Option X) (keys : List K) (xs : List X) → each f keys ≡ each Some xs → (n : ℕ) → and_then f (slice_get keys n) ≡ slice_get xs n
read_in_turn f [] [] e n = refl
read_in_turn f [] (x ∷ xs) e n = cc
read_in_turn f (k ∷ keys) [] e n = cc
read_in_turn f (k ∷ keys) (x ∷ xs) e zero = cc e
read_in_turn f (k ∷ keys) (x ∷ xs) e (suc n) = read_in_turn f keys xs (cc e) n

in_turn_from : {X Y : Type 0} (h : X → Y) (o : ℕ → Option X) (xs : List X) (k : ℕ) → ((i : ℕ) → o (k + i) ≡ slice_get xs i) → filter_map (λ n. option_map h (o n)) (range_with_len k (length xs)) ≡ each h xs
in_turn_from h o [] k reads = refl
in_turn_from h o (x ∷ xs) k reads =
    let here : k ≡ k + 0 = omega arith in
    filter_map-append (λ n. option_map h (o n)) (k ∷ []) (range_with_len (k + 1) (length xs))
    ∙ (λ j. (one_kept (λ n. option_map h (o n)) k ∙ ap (λ e. option_to_list (option_map h e)) (ap o here ∙ reads 0)) j
    ++ in_turn_from h o xs (k + 1) (λ i. let on : (k + 1) + i ≡ k + suc i = omega arith in ap o on ∙ reads (suc i)) j)

-- the links that are read of a map of ids are one for each id
pub links_are_ids : (a : MapAttr) (c : Contents) → IsWell a c → good a ≡ true → holds_ids a.kind ≡ true → {Y : Type 0} (h : ℕ → Y)
    → filter_map (λ n. option_map h (and_then (told_under a c) (key_of_element a c n))) (range_with_len 0 (count_of a c)) ≡ each h (ids_in c)
links_are_ids a c w fine ids h =
    let k = has_keys a c w fine ids in
    let turn = read_in_turn (told_under a c) k.keys (ids_in c) k.ids in
    let long : count_of a c ≡ length (ids_in c) = k.count ∙ sym (length-map k.keys (told_under a c)) ∙ ap length k.ids ∙ length-map (ids_in c) Some in
    ap (λ n. filter_map (λ n. option_map h (and_then (told_under a c) (key_of_element a c n))) (range_with_len 0 n)) long
    ∙ in_turn_from h (λ n. and_then (told_under a c) (key_of_element a c n)) (ids_in c) 0
    (λ i. let same : 0 + i ≡ i = omega arith in ap (λ n. and_then (told_under a c) (key_of_element a c n)) same ∙ ap (and_then (told_under a c)) (k.elements i) ∙ turn i)

-- contents of this shape hold no ids
abbrev pub HoldsNoIds : Shape → Type 0
HoldsNoIds OfValues = ⊤
HoldsNoIds OfEntries = ⊤
HoldsNoIds OfItems = ⊤
HoldsNoIds OfSlots = ⊥
HoldsNoIds OfLinks = ⊥

pub none_in : (c : Contents) → HoldsNoIds (shape_of c) → ids_in c ≡ []
none_in (Values vs) t = refl
none_in (Entries m) t = refl
none_in (Items xs) t = refl
none_in (Slots ls) t = absurd t
none_in (Links m) t = absurd t

shape_of_bytes : (kind : MapType) → holds_ids kind ≡ false → HoldsNoIds (shape_of_type kind)
shape_of_bytes Array e = tt
shape_of_bytes Hash e = tt
shape_of_bytes LpmTrie e = tt
shape_of_bytes Queue e = tt
shape_of_bytes Stack e = tt
shape_of_bytes ArrayOfMaps e = cc
shape_of_bytes ProgArray e = cc
shape_of_bytes HashOfMaps e = cc

-- a map of bytes holds none
pub no_ids_in : (a : MapAttr) (c : Contents) → IsWell a c → holds_ids a.kind ≡ false → ids_in c ≡ []
no_ids_in a c w none = none_in c (subst HoldsNoIds w.shape (shape_of_bytes a.kind none))
