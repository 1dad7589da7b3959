-- What a table's calls leave of its entries, from what they do to its rows.
use Rattle.std.proofs.Common.{◌≡◌, ◌≢◌, ℕ, suc, ◌+◌, ◌-◌, ◌<◌, ◌≤◌, ◌^◌, false, eqb, List, [], ◌∷◌, ◌++◌, length, get_or, set, take, map as each, replicate, Option, refl, sym, ap, ap₂, subst, ◌∙◌, arith, add-one, length-set, length-append, length-take, length-drop, append-nil}
use Rattle.std.specs.List.{insert, remove, All, IsDistinct, range_with_len}
use Rattle.std.proofs.lemmas.List.{drop_all, length-map, length-take-le, length-replicate, get_or_default, get_or-map, get_or-take, get_or-set_same, get_or-set_other}
use Rattle.std.proofs.lemmas.List.FromFn.{length-range_with_len, get_or-range_with_len}
use Rattle.std.proofs.lemmas.Map.Keys.{IsDistinct-from_apart}
use Rattle.std.proofs.lemmas.Bool.Decides.{nat_tests}
use Rattle.std.proofs.lemmas.List.Elements.{All-same, All-set, All-get_or, All-replicate}
use Rattle.std.specs.FinMap as map
use Rattle.bt_mapkind.specs.Contents.{ByKey}
use Rattle.bt_mapkind.specs.declared.errno.Errno.{Errno}
use Rattle.bt_mapkind.specs.declared.atomic.AtomicSize.{AtomicSize}
use Rattle.bt_mapkind.specs.declared.atomic.AtomicSize.TheVariants.{Word, DoubleWord}
use Rattle.bt_mapkind.specs.Atomic.{overwritten, size_in_bytes, bytes_of}
use Rattle.map_table.specs.Order.{key_cmp, Rises, IsPlace, IsGap}
use Rattle.map_table.specs.Table.{Kept, IsTable, put_fault, row_keys, row_entries, moved}
use Rattle.map_table.proofs.SortedLemmas.{Listed, keys_of, IsSorted, rises}
use Rattle.map_table.proofs.MapLemmas.{entries_seen, IsEdit, set_seen, remove_seen, insert_seen}
use Rattle.map_table.proofs.MovedLemmas.{length-moved}
use Rattle.map_table.proofs.OrderLemmas.{all-moved, distinct-moved, take-moved_out, take-moved_in, apart, map-insert, map-remove, map-agree, map-agree_but}

-- what contracts see of a table
abbrev pub seen : List ℕ → ℕ → ℕ → ℕ → List (List ℕ) → List (List ℕ) → Kept
seen order len key_size value_size keys values =
    record { entries = map.from_sorted (row_entries order len keys values); capacity = length keys; key_size = key_size; value_size = value_size }

-- ---- why a value cannot be put, by the room that is asked for
pub put_fault_of : (capacity room : ℕ) (m : ByKey (List ℕ)) (key : List ℕ) (flag : ℕ) (full : Errno) (answer : Option Errno) → answer ≡ put_fault capacity m key flag full → capacity ≡ room → put_fault room m key flag full ≡ answer
put_fault_of capacity room m key flag full answer told same = sym (told ∙ ap (λ n. put_fault n m key flag full) same)

-- ---- bytes written
pub length-overwritten : (old : List ℕ) (offset n : ℕ) (bytes : List ℕ) → length old ≡ n → offset + length bytes ≤ n → length (overwritten old offset bytes) ≡ n
length-overwritten old offset n bytes size within = simp (length-append, length-take, length-drop) (omega arith)

pub length-bytes_of : (size : AtomicSize) (n : ℕ) → length (bytes_of size n) ≡ size_in_bytes size
unfolding bytes_of
length-bytes_of Word n = refl
length-bytes_of DoubleWord n = refl

pub overwritten-whole : (old bytes : List ℕ) → length bytes ≡ length old → overwritten old 0 bytes ≡ bytes
overwritten-whole old bytes same = ap (λ l. bytes ++ l) (drop_all (0 + length bytes) old (omega arith)) ∙ append-nil bytes

-- ---- the keys and the values in their rows
keys_in_rows : (order : List ℕ) (len : ℕ) (keys values : List (List ℕ)) → keys_of (row_entries order len keys values) ≡ row_keys order len keys
keys_in_rows order len keys values = over (take len order)
  where
    over : (rows : List ℕ) → keys_of (each (λ row. (get_or keys row [], get_or values row [])) rows) ≡ each (λ row. get_or keys row []) rows
    over [] = refl
    over (row ∷ rows) = ap (λ l. get_or keys row [] ∷ l) (over rows)

values_in_rows : (order : List ℕ) (len : ℕ) (keys values : List (List ℕ)) → each (λ (e : List ℕ × List ℕ). e.1) (row_entries order len keys values) ≡ each (λ row. get_or values row []) (take len order)
values_in_rows order len keys values = over (take len order)
  where
    over : (rows : List ℕ) → each (λ (e : List ℕ × List ℕ). e.1) (each (λ row. (get_or keys row [], get_or values row [])) rows) ≡ each (λ row. get_or values row []) rows
    over [] = refl
    over (row ∷ rows) = ap (λ l. get_or values row [] ∷ l) (over rows)

module _ (s : Kept) (order : List ℕ) (len key_size value_size : ℕ) (keys values : List (List ℕ)) (t : IsTable order len key_size value_size keys values) (view : seen order len key_size value_size keys values ≡ s) where
  es : Listed
  es = row_entries order len keys values

  entries_are : map.from_sorted es ≡ s.entries
  unfolding es
  entries_are = ap (λ (k : Kept). k.entries) view

  listed : map.entries s.entries ≡ es
  unfolding es
  listed = ap map.entries (sym entries_are) ∙ entries_seen es t.sorted

  pub keys_are : map.keys s.entries ≡ row_keys order len keys
  unfolding es
  keys_are = ap keys_of listed ∙ keys_in_rows order len keys values

  values_are : map.values s.entries ≡ each (λ row. get_or values row []) (take len order)
  unfolding es
  values_are = ap (λ (l : Listed). each (λ (e : List ℕ × List ℕ). e.1) l) listed ∙ values_in_rows order len keys values

  pub len_is : map.len s.entries ≡ len
  unfolding es
  len_is = map.len-entries s.entries ∙ ap length listed ∙ length-map (take len order) _ ∙ length-take-le len order t.len_within

  pub capacity_is : s.capacity ≡ length keys
  capacity_is = sym (ap (λ (k : Kept). k.capacity) view)

  pub len_fits : map.len s.entries ≤ s.capacity
  len_fits = omega (arith, len_is, capacity_is, t.len_within, t.count)

  pub rising : Rises (row_keys order len keys)
  unfolding es
  rising = subst Rises (keys_in_rows order len keys values) (rises es t.sorted)

  -- the row at a place
  pub row_within : (place : ℕ) → place < map.len s.entries → get_or order place 0 < length keys
  row_within place below = All-get_or (λ row. row < length keys) order place 0 (omega (arith, len_is, t.len_within)) t.rows

  pub key_in_row : (place : ℕ) → place < map.len s.entries → get_or keys (get_or order place 0) [] ≡ get_or (map.keys s.entries) place []
  key_in_row place below =
      let under : place < len = omega (arith, len_is) in
      let inside : place < length (take len order) = omega (arith, length-take-le len order t.len_within) in
      sym (ap (λ (l : List (List ℕ)). get_or l place []) keys_are
      ∙ get_or-map (λ row. get_or keys row []) (take len order) place 0 [] inside
      ∙ ap (λ row. get_or keys row []) (get_or-take len order place 0 under))

  pub value_in_row : (place : ℕ) → place < map.len s.entries → get_or values (get_or order place 0) [] ≡ get_or (map.values s.entries) place []
  value_in_row place below =
      let under : place < len = omega (arith, len_is) in
      let inside : place < length (take len order) = omega (arith, length-take-le len order t.len_within) in
      sym (ap (λ (l : List (List ℕ)). get_or l place []) values_are
      ∙ get_or-map (λ row. get_or values row []) (take len order) place 0 [] inside
      ∙ ap (λ row. get_or values row []) (get_or-take len order place 0 under))

  -- the row that the code reads
  pub row_read : (place row : ℕ) → place < map.len s.entries → row ≡ get_or order place row → row ≡ get_or order place 0
  row_read place row below is = is ∙ get_or_default order place row 0 (omega (arith, len_is, t.len_within))

  pub row_there : (place row : ℕ) → place < map.len s.entries → row ≡ get_or order place row → row < length keys
  row_there place row below is = rw (row_read place row below is) (row_within place below)

  pub key_read : (place row : ℕ) → place < map.len s.entries → row ≡ get_or order place row → get_or keys row [] ≡ get_or (map.keys s.entries) place []
  key_read place row below is = ap (λ r. get_or keys r []) (row_read place row below is) ∙ key_in_row place below

  pub value_read : (place row : ℕ) → place < map.len s.entries → row ≡ get_or order place row → get_or values row [] ≡ get_or (map.values s.entries) place []
  value_read place row below is = ap (λ r. get_or values r []) (row_read place row below is) ∙ value_in_row place below

  pub value_long : (row : ℕ) → row < length keys → length (get_or values row []) ≡ s.value_size
  value_long row there = All-get_or (λ v. length v ≡ value_size) values row [] (omega (arith, t.value_count)) t.value_sizes ∙ ap (λ (k : Kept). k.value_size) view

  pub key_long : (row : ℕ) → row < length keys → length (get_or keys row []) ≡ s.key_size
  key_long row there = All-get_or (λ k. length k ≡ key_size) keys row [] there t.key_sizes ∙ ap (λ (k : Kept). k.key_size) view

  pub value_size_is : (place : ℕ) → place < map.len s.entries → length (get_or (map.values s.entries) place []) ≡ s.value_size
  value_size_is place below = sym (ap length (value_in_row place below)) ∙ value_long (get_or order place 0) (row_within place below)

  -- the first row that holds no entry
  pub next_read : (row : ℕ) → map.len s.entries < s.capacity → row ≡ get_or order len row → row ≡ get_or order len 0
  next_read row room is = is ∙ get_or_default order len row 0 (omega (arith, len_is, capacity_is, t.count))

  pub next_there : (row : ℕ) → map.len s.entries < s.capacity → row ≡ get_or order len row → row < length keys
  next_there row room is = rw (next_read row room is) (All-get_or (λ r. r < length keys) order len 0 (omega (arith, len_is, capacity_is, t.count)) t.rows)

  pub place_within : (place : ℕ) (key : List ℕ) → IsGap (map.keys s.entries) key place → place ≤ len
  place_within place key gap = omega (arith, gap.within, ap length keys_are, length-map (take len order) (λ row. get_or keys row []), length-take-le len order t.len_within)

  -- a key that fills its row
  pub whole_key : (row : ℕ) (key bytes : List ℕ) (new : List (List ℕ)) → row < length keys → bytes ≡ key → length key ≡ s.key_size → new ≡ set keys row (overwritten (get_or keys row []) 0 bytes) → new ≡ set keys row key
  whole_key row key bytes new there same size is =
      is ∙ ap (set keys row) (ap (overwritten (get_or keys row []) 0) same ∙ overwritten-whole (get_or keys row []) key (size ∙ sym (key_long row there)))

  -- and a value
  pub whole_value : (row : ℕ) (value : List ℕ) (new : List (List ℕ)) → row < length keys → length value ≡ s.value_size → new ≡ set values row (overwritten (get_or values row []) 0 value) → new ≡ set values row value
  whole_value row value new there size is = is ∙ ap (set values row) (overwritten-whole (get_or values row []) value (size ∙ sym (value_long row there)))

-- ---- edits
-- a table, and what contracts see of it
pub record IsSeen (order : List ℕ) (len key_size value_size : ℕ) (keys values : List (List ℕ)) (s : Kept) : Type 0 where
  pub table : IsTable order len key_size value_size keys values
  pub view : seen order len key_size value_size keys values ≡ s

abbrev pub with_entries : Kept → ByKey (List ℕ) → Kept
with_entries s m = record { entries = m; capacity = s.capacity; key_size = s.key_size; value_size = s.value_size }

module _ (s : Kept) (order : List ℕ) (len key_size value_size : ℕ) (keys values : List (List ℕ)) (t : IsTable order len key_size value_size keys values) (view : seen order len key_size value_size keys values ≡ s) where
  abbrev old : Listed
  old = row_entries order len keys values

  abbrev key_at : ℕ → List ℕ
  key_at place = get_or (map.keys s.entries) place []

  seen_by : (entries : Listed) (m : ByKey (List ℕ)) (n : ℕ) → map.from_sorted entries ≡ m → n ≡ length keys
      → record { entries = map.from_sorted entries; capacity = n; key_size = key_size; value_size = value_size } ≡ with_entries s m
  seen_by entries m n is same =
      ap₂ (λ (e : ByKey (List ℕ)) c. record { entries = e; capacity = c; key_size = key_size; value_size = value_size }) is same ∙ ap (λ k. with_entries k m) view

  places : map.keys s.entries ≡ keys_of old
  places = keys_are s order len key_size value_size keys values t view ∙ sym (keys_in_rows order len keys values)

  place_of : (place : ℕ) → place < map.len s.entries → IsPlace (keys_of old) (key_at place) place
  place_of place below = record {
    within = omega (arith, ap length (keys_in_rows order len keys values), len_is s order len key_size value_size keys values t view, length-map (take len order) (λ row. get_or keys row []), length-take-le len order t.len_within);
    is = ap (λ (l : List (List ℕ)). get_or l place []) (sym places);
  }

  -- the rows of two places differ
  row_apart : (place k : ℕ) → place < length order → k < length (take len order) → k ≢ place → get_or order place 0 ≢ get_or (take len order) k 0
  row_apart place k here there other =
      let under : k < len = omega (arith, length-take-le len order t.len_within) in
      rw (get_or-take len order k 0 under) (apart order place k t.once here (omega (arith, t.len_within)) (λ same. other (sym same)))

  -- another value in the row at a place
  pub value_written : (place row : ℕ) (value : List ℕ) (new : List (List ℕ)) → place < map.len s.entries → row ≡ get_or order place 0 → new ≡ set values row value → length value ≡ value_size
      → IsSeen order len key_size value_size keys new (with_entries s (map.insert s.entries (key_at place) value))
  value_written place row value new below at is size =
      let under : place < len = omega (arith, len_is s order len key_size value_size keys values t view) in
      let inside : place < length (take len order) = omega (arith, length-take-le len order t.len_within) in
      let rows : new ≡ set values (get_or order place 0) value = is ∙ ap (λ r. set values r value) at in
      let within : get_or order place 0 < length values = omega (arith, row_within s order len key_size value_size keys values t view place below, t.value_count) in
      let here : get_or (take len order) place 0 ≡ get_or order place 0 = get_or-take len order place 0 under in
      let edited : row_entries order len keys new ≡ set old place (key_at place, value) =
      map-agree_but (λ r. (get_or keys r [], get_or new r [])) (λ r. (get_or keys r [], get_or values r [])) (take len order) place inside
      (λ k lt other. ap (λ v. (get_or keys (get_or (take len order) k 0) [], v))
      (ap (λ (l : List (List ℕ)). get_or l (get_or (take len order) k 0) []) rows ∙ get_or-set_other values (get_or order place 0) (get_or (take len order) k 0) value [] (λ same. row_apart place k (omega (arith, t.len_within)) lt other (sym same))))
      ∙ ap₂ (λ k v. set old place (k, v))
      (ap (λ r. get_or keys r []) here ∙ key_in_row s order len key_size value_size keys values t view place below)
      (ap₂ (λ (l : List (List ℕ)) r. get_or l r []) rows here ∙ get_or-set_same values (get_or order place 0) value [] within) in
      let edit : IsEdit (set old place (key_at place, value)) (map.insert (map.from_sorted old) (key_at place) value) = set_seen old (key_at place) value place t.sorted (place_of place below) in
      record {
        table = record {
          sorted = ap (map.is_sorted key_cmp) edited ∙ edit.sorted;
          len_within = t.len_within;
          count = t.count;
          value_count = ap length is ∙ length-set values row value ∙ t.value_count;
          few = t.few;
          rows = t.rows;
          once = t.once;
          key_sizes = t.key_sizes;
          value_sizes = All-same (λ v. length v ≡ value_size) new _ is (All-set (λ v. length v ≡ value_size) values row value size t.value_sizes);
          small_keys = t.small_keys;
          small_values = t.small_values;
        };
        view = seen_by (row_entries order len keys new) _ (length keys)
            (ap map.from_sorted edited ∙ edit.is ∙ ap (λ m. map.insert m (key_at place) value) (ap (λ (k : Kept). k.entries) view)) refl;
      }

  -- the entry at a place taken away
  pub taken_out : (place : ℕ) (after : List ℕ) → place < map.len s.entries → after ≡ moved order place (len - 1)
      → IsSeen after (len - 1) key_size value_size keys values (with_entries s (map.remove s.entries (key_at place)))
  taken_out place after below is =
      let under : place < len = omega (arith, len_is s order len key_size value_size keys values t view) in
      let last : len - 1 < length order = omega (arith, t.len_within) in
      let whole : suc (len - 1) ≡ len = omega arith in
      let from : place < length order = omega (arith, t.len_within) in
      let first : take (len - 1) after ≡ remove (take len order) place =
      ap (take (len - 1)) is ∙ take-moved_out order place (len - 1) (omega arith) last ∙ ap (λ n. remove (take n order) place) whole in
      let edited : row_entries after (len - 1) keys values ≡ remove old place =
      ap (each (λ row. (get_or keys row [], get_or values row []))) first ∙ map-remove (λ row. (get_or keys row [], get_or values row [])) (take len order) place in
      let edit : IsEdit (remove old place) (map.remove (map.from_sorted old) (key_at place)) = remove_seen old (key_at place) place t.sorted (place_of place below) in
      let long : length after ≡ length order = ap length is ∙ length-moved order place (len - 1) from last in
      record {
        table = record {
          sorted = ap (map.is_sorted key_cmp) edited ∙ edit.sorted;
          len_within = omega (arith, long, t.len_within);
          count = long ∙ t.count;
          value_count = t.value_count;
          few = t.few;
          rows = All-same (λ row. row < length keys) after _ is (all-moved (λ row. row < length keys) order place (len - 1) from t.rows);
          once = subst (IsDistinct eqb) (sym is) (distinct-moved order place (len - 1) from t.once);
          key_sizes = t.key_sizes;
          value_sizes = t.value_sizes;
          small_keys = t.small_keys;
          small_values = t.small_values;
        };
        view = seen_by (row_entries after (len - 1) keys values) _ (length keys)
            (ap map.from_sorted edited ∙ edit.is ∙ ap (λ m. map.remove m (key_at place)) (ap (λ (k : Kept). k.entries) view)) refl;
      }

  -- a new entry put in
  pub put_in : (place row : ℕ) (key value : List ℕ) (after : List ℕ) (new_keys new_values : List (List ℕ)) → IsGap (map.keys s.entries) key place → map.len s.entries < s.capacity → length key ≡ key_size → length value ≡ value_size
      → row ≡ get_or order len 0 → new_keys ≡ set keys row key → new_values ≡ set values row value → after ≡ moved order len place
      → IsSeen after (len + 1) key_size value_size new_keys new_values (with_entries s (map.insert s.entries key value))
  put_in place row key value after new_keys new_values gap room ksize vsize at ks vs is =
      let n : map.len s.entries ≡ len = len_is s order len key_size value_size keys values t view in
      let capacity : s.capacity ≡ length keys = capacity_is s order len key_size value_size keys values t view in
      let free : len < length order = omega (arith, t.count) in
      let gap_here : IsGap (keys_of old) key place = subst (λ l. IsGap l key place) places gap in
      let le : place ≤ len = omega (arith, gap_here.within, ap length (keys_in_rows order len keys values), length-map (take len order) (λ row. get_or keys row []), length-take-le len order t.len_within) in
      let within : row < length keys = rw at (All-get_or (λ r. r < length keys) order len 0 free t.rows) in
      let first : take (len + 1) after ≡ insert (take len order) place row =
      rw add-one (ap (take (suc len)) is ∙ take-moved_in order place len le free ∙ ap (insert (take len order) place) (sym at)) in
      let others : each (λ r. (get_or new_keys r [], get_or new_values r [])) (take len order) ≡ old =
      map-agree (λ r. (get_or new_keys r [], get_or new_values r [])) (λ r. (get_or keys r [], get_or values r [])) (take len order)
      (λ k lt.
      let r : ℕ = get_or (take len order) k 0 in
      let differs : r ≢ row = λ same. row_apart len k free lt (omega (arith, length-take-le len order t.len_within)) (sym (same ∙ at)) in
      ap₂ (λ (a b : List ℕ). (a, b))
      (ap (λ (l : List (List ℕ)). get_or l r []) ks ∙ get_or-set_other keys row r key [] differs)
      (ap (λ (l : List (List ℕ)). get_or l r []) vs ∙ get_or-set_other values row r value [] differs)) in
      let here : ◌≡◌ {A = List ℕ × List ℕ} (get_or new_keys row [], get_or new_values row []) (key, value) =
      ap₂ (λ (a b : List ℕ). (a, b))
      (ap (λ (l : List (List ℕ)). get_or l row []) ks ∙ get_or-set_same keys row key [] within)
      (ap (λ (l : List (List ℕ)). get_or l row []) vs ∙ get_or-set_same values row value [] (omega (arith, within, t.value_count))) in
      let edited : row_entries after (len + 1) new_keys new_values ≡ insert old place (key, value) =
      ap (each (λ r. (get_or new_keys r [], get_or new_values r []))) first
      ∙ map-insert (λ r. (get_or new_keys r [], get_or new_values r [])) (take len order) place row
      ∙ ap₂ (λ (l : Listed) (e : List ℕ × List ℕ). insert l place e) others here in
      let edit : IsEdit (insert old place (key, value)) (map.insert (map.from_sorted old) key value) = insert_seen old key value place t.sorted gap_here in
      let long : length after ≡ length order = ap length is ∙ length-moved order len place free (omega arith) in
      let keys_long : length new_keys ≡ length keys = ap length ks ∙ length-set keys row key in
      let values_long : length new_values ≡ length values = ap length vs ∙ length-set values row value in
      record {
        table = record {
          sorted = ap (map.is_sorted key_cmp) edited ∙ edit.sorted;
          len_within = omega arith;
          count = long ∙ t.count ∙ sym keys_long;
          value_count = values_long ∙ t.value_count ∙ sym keys_long;
          few = omega (arith, t.few);
          rows = subst (λ c. All (λ r. r < c) after) (sym keys_long) (All-same (λ r. r < length keys) after _ is (all-moved (λ r. r < length keys) order len place free t.rows));
          once = subst (IsDistinct eqb) (sym is) (distinct-moved order len place free t.once);
          key_sizes = All-same (λ k. length k ≡ key_size) new_keys _ ks (All-set (λ k. length k ≡ key_size) keys row key ksize t.key_sizes);
          value_sizes = All-same (λ v. length v ≡ value_size) new_values _ vs (All-set (λ v. length v ≡ value_size) values row value vsize t.value_sizes);
          small_keys = t.small_keys;
          small_values = t.small_values;
        };
        view = seen_by (row_entries after (len + 1) new_keys new_values) _ (length new_keys)
            (ap map.from_sorted edited ∙ edit.is ∙ ap (λ m. map.insert m key value) (ap (λ (k : Kept). k.entries) view)) keys_long;
      }

-- ---- a new table
none_listed : (es : Listed) → es ≡ [] → map.from_sorted {R = key_cmp} es ≡ map.empty
none_listed es none =
    let sorted : IsSorted es = ap (map.is_sorted key_cmp) none in
    map.empty_of_len (map.from_sorted es) (map.len-entries (map.from_sorted es) ∙ ap length (entries_seen es sorted ∙ none))

numbers_differ : (count i j d : ℕ) → i < j → j < length (range_with_len 0 count) → eqb (get_or (range_with_len 0 count) i d) (get_or (range_with_len 0 count) j d) ≡ false
numbers_differ count i j d lt within =
    let long : length (range_with_len 0 count) ≡ count = length-range_with_len 0 count in
    let a : get_or (range_with_len 0 count) i d ≡ 0 + i = get_or-range_with_len 0 count i d (omega arith) in
    let b : get_or (range_with_len 0 count) j d ≡ 0 + j = get_or-range_with_len 0 count j d (omega arith) in
    let other : get_or (range_with_len 0 count) i d ≢ get_or (range_with_len 0 count) j d = omega arith in
    grind (arith, nat_tests)

pub begun : (order : List ℕ) (capacity key_size value_size : ℕ) (keys values : List (List ℕ)) → capacity < 2 ^ 32 → key_size ≤ 260 → value_size ≤ 260
    → order ≡ range_with_len 0 capacity → keys ≡ replicate capacity (replicate key_size 0) → values ≡ replicate capacity (replicate value_size 0)
    → IsSeen order 0 key_size value_size keys values (record { entries = map.empty; capacity = capacity; key_size = key_size; value_size = value_size })
begun order capacity key_size value_size keys values few small_keys small_values is ks vs =
    let keys_long : length keys ≡ capacity = ap length ks ∙ length-replicate capacity _ in
    let long : length order ≡ capacity = ap length is ∙ length-range_with_len 0 capacity in
    let values_long : length values ≡ capacity = ap length vs ∙ length-replicate capacity _ in
    record {
      table = record {
        sorted = refl;
        len_within = omega arith;
        count = long ∙ sym keys_long;
        value_count = values_long ∙ sym keys_long;
        few = omega arith;
        rows = λ k d below. omega (arith, ap (λ l. get_or l k d) is, get_or-range_with_len 0 capacity k d (omega arith));
        once = subst (IsDistinct eqb) (sym is) (IsDistinct-from_apart eqb _ (numbers_differ capacity));
        key_sizes = All-same (λ k. length k ≡ key_size) keys _ ks (All-replicate (λ k. length k ≡ key_size) capacity _ (length-replicate key_size 0));
        value_sizes = All-same (λ v. length v ≡ value_size) values _ vs (All-replicate (λ v. length v ≡ value_size) capacity _ (length-replicate value_size 0));
        small_keys = small_keys;
        small_values = small_values;
      };
      view = ap₂ (λ (e : ByKey (List ℕ)) c. record { entries = e; capacity = c; key_size = key_size; value_size = value_size }) (none_listed _ refl) keys_long;
    }
