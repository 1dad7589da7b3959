-- A table with chains: the entry in a row that a search found, and what is left where an entry comes or goes.
use Rattle.std.proofs.Common.{◌≡◌, ℕ, suc, ◌+◌, ◌-◌, ◌<◌, ◌≤◌, ◌^◌, true, false, ◌&&◌, eqb, List, [], ◌∷◌, length, get_or, set, take, drop, map as each, replicate, Option, Some, None, is_some, MatchOption, refl, sym, ap, ap₂, subst, ◌∙◌, arith, add-one, length-set, length-append}
use Rattle.std.specs.List.{All, insert, remove, range_with_len}
use Rattle.std.specs.FinMap as map
use Rattle.std.proofs.lemmas.List.{get_or_default, get_or-take, get_or-drop, get_or_append_left, get_or-append_right, length-take-le, length-replicate, take_at, take_all}
use Rattle.std.proofs.lemmas.List.Edits.{length-insert, length-remove}
use Rattle.std.proofs.lemmas.List.FromFn.{length-range_with_len}
use Rattle.map_order.specs.Order.{Ordered}
use Rattle.bt_mapkind.specs.Atomic.{overwritten}
use Rattle.map_table.specs.Order.{Rises, IsPlace, IsGap}
use Rattle.map_chains.specs.Chains.{Chained, has, without}
use Rattle.map_chains.specs.Buckets.{bucket_of}
use Rattle.map_table.specs.Table.{Kept, IsTable, row_keys, moved, all_rows}
use Rattle.map_table.specs.Index.{IsIndexed, IsIndexedTable, IsRow, IsNotIn}
use Rattle.map_table.proofs.MapLemmas.{length-keys, get_place, get_absent}
use Rattle.map_table.proofs.MovedLemmas.{put_moved, take_moved}
use Rattle.map_table.proofs.OrderLemmas.{take-moved_in, take-moved_out}
use Rattle.map_table.proofs.TableLemmas.{seen, with_entries, IsSeen, len_is, capacity_is, keys_are, rising, row_within, key_in_row, value_in_row, value_long, place_within, overwritten-whole, value_written, put_in, taken_out, begun}
use Rattle.map_table.proofs.IndexLemmas.{first_once, next_free, has_at, chain_of, in_none, came_in, went_out, none_indexed}

-- a table, and what contracts see of it
pub record IsKeptAs (order : Ordered) (free : List ℕ) (key_size value_size : ℕ) (keys values : List (List ℕ)) (chains : Chained) (s : Kept) : Type 0 where
  pub invariant : IsIndexedTable order free key_size value_size keys values chains
  pub view : seen (all_rows order.rows free) (length order.rows) key_size value_size keys values ≡ s

module _ (s : Kept) (ordered : Ordered) (free : List ℕ) (key_size value_size : ℕ) (keys values : List (List ℕ)) (chains : Chained) (kept : IsIndexedTable ordered free key_size value_size keys values chains)
    (view : seen (all_rows ordered.rows free) (length ordered.rows) key_size value_size keys values ≡ s) where
  abbrev order : List ℕ
  order = all_rows ordered.rows free

  abbrev len : ℕ
  len = length ordered.rows

  abbrev t : IsTable (all_rows ordered.rows free) (length ordered.rows) key_size value_size keys values
  t = kept.table

  abbrev x : IsIndexed (all_rows ordered.rows free) (length ordered.rows) keys chains
  x = kept.index

  -- ---- the rows that the code sees
  firsts : take (length ordered.rows) (all_rows ordered.rows free) ≡ take (length ordered.rows) ordered.rows
  firsts = take_at ordered.rows (drop (length ordered.rows) free) (length ordered.rows) refl ∙ sym (take_all (length ordered.rows) ordered.rows (omega arith))

  same_keys : row_keys ordered.rows (length ordered.rows) keys ≡ row_keys (all_rows ordered.rows free) (length ordered.rows) keys
  same_keys = ap (λ (rows : List ℕ). each (λ row. get_or keys row []) rows) (sym firsts)

  pub handed_rise : Rises (row_keys ordered.rows (length ordered.rows) keys)
  handed_rise = subst Rises (sym same_keys) (rising s order len key_size value_size keys values t view)

  pub handed_keys : row_keys ordered.rows (length ordered.rows) keys ≡ map.keys s.entries
  handed_keys = same_keys ∙ sym (keys_are s order len key_size value_size keys values t view)

  pub handed_index : IsIndexed ordered.rows (length ordered.rows) keys chains
  handed_index = record {
    rows = x.rows;
    some = x.some;
    exact = λ bucket row lt. x.exact bucket row lt ∙ ap (λ (rows : List ℕ). has row rows && eqb (bucket_of (length chains.buckets) (get_or keys row [])) bucket) firsts;
  }

  pub handed_rows : All (λ row. row < length keys) ordered.rows
  handed_rows = λ k d lt. subst (λ row. row < length keys) (get_or_append_left ordered.rows (drop (length ordered.rows) free) d k lt) (t.rows k d (omega (arith, length-append ordered.rows (drop (length ordered.rows) free))))

  below : (place : ℕ) → place < length ordered.rows → place < map.len s.entries
  below place lt = omega (arith, len_is s order len key_size value_size keys values t view)

  -- ---- what a search says, by the key that it was handed
  module _ (bytes key : List ℕ) (bytes_is : bytes ≡ key) where
    pub absent : IsNotIn (row_keys ordered.rows (length ordered.rows) keys) bytes → map.get s.entries key ≡ None
    absent none =
        let here : IsNotIn (row_keys order len keys) key = subst (λ l. IsNotIn l key) same_keys (subst (IsNotIn (row_keys ordered.rows (length ordered.rows) keys)) bytes_is none) in
        get_absent s.entries key (subst (λ l. IsNotIn l key) (sym (keys_are s order len key_size value_size keys values t view)) here)

    module _ (row : ℕ) (found : IsRow ordered.rows (length ordered.rows) keys bytes row) where
      at : get_or (all_rows ordered.rows free) found.place 0 ≡ row
      at = get_or_append_left ordered.rows (drop (length ordered.rows) free) 0 found.place found.within ∙ found.at

      pub found_there : row < length keys
      found_there = subst (λ r. r < length keys) at (row_within s order len key_size value_size keys values t view found.place (below found.place found.within))

      pub found_value_there : row < length values
      found_value_there = omega (arith, found_there, t.value_count)

      place : IsPlace (map.keys s.entries) key found.place
      place = record {
        within = omega (arith, below found.place found.within, length-keys s.entries);
        is = sym (key_in_row s order len key_size value_size keys values t view found.place (below found.place found.within)) ∙ ap (λ r. get_or keys r []) at ∙ found.is ∙ bytes_is;
      }

      pub found_value : map.get s.entries key ≡ Some (get_or values row [])
      found_value =
          get_place s.entries key found.place place
          ∙ ap Some (sym (value_in_row s order len key_size value_size keys values t view found.place (below found.place found.within)) ∙ ap (λ r. get_or values r []) at)

      pub found_long : length (get_or values row []) ≡ s.value_size
      found_long = value_long s order len key_size value_size keys values t view row found_there

      pub found_small : length (get_or values row []) ≤ 260
      found_small = omega (arith, found_long, ap (λ (k : Kept). k.value_size) view, t.small_values)

      -- another value in the row
      pub found_written : (value : List ℕ) (new : List (List ℕ)) → new ≡ set values row value → length value ≡ s.value_size → IsKeptAs ordered free key_size value_size keys new chains (with_entries s (map.insert s.entries key value))
      found_written value new is size =
          let n : IsSeen order len key_size value_size keys new (with_entries s (map.insert s.entries key value)) =
          subst (λ k. IsSeen order len key_size value_size keys new (with_entries s (map.insert s.entries k value))) place.is
          (value_written s order len key_size value_size keys values t view found.place row value new (below found.place found.within) (sym at) is (size ∙ sym (ap (λ (k : Kept). k.value_size) view))) in
          record { invariant = record { table = n.table; index = x; capacity = kept.capacity; room = kept.room }; view = n.view }

      pub found_replaced : (value : List ℕ) (new : List (List ℕ)) → new ≡ set values row (overwritten (get_or values row []) 0 value) → length value ≡ s.value_size
          → IsKeptAs ordered free key_size value_size keys new chains (with_entries s (map.insert s.entries key value))
      found_replaced value new is size = found_written value new (is ∙ ap (set values row) (overwritten-whole (get_or values row []) value (size ∙ sym found_long))) size

    pub is_there : (r : Option ℕ) → MatchOption r (IsNotIn (row_keys ordered.rows (length ordered.rows) keys) bytes) (λ row. IsRow ordered.rows (length ordered.rows) keys bytes row) → is_some r ≡ map.contains_key s.entries key
    is_there None none = sym (ap is_some (absent none))
    is_there (Some row) found = sym (ap is_some (found_value row found))

  -- ---- an entry comes or goes
  next_apart : (row : ℕ) → map.len s.entries < s.capacity → row ≡ get_or order len 0 → has row (take len order) ≡ false
  next_apart row room at =
      next_free order len row (omega (arith, len_is s order len key_size value_size keys values t view, capacity_is s order len key_size value_size keys values t view, t.count)) t.once at

  pub next_unlinked : (row : ℕ) → map.len s.entries < s.capacity → row ≡ get_or order len 0 → All (λ chain. has row chain ≡ false) chains.buckets
  next_unlinked row room at = in_none order len keys chains x row (next_apart row room at)

  put_indexed : (place row bucket count : ℕ) (bytes key after : List ℕ) (new_keys : List (List ℕ)) (new : Chained) → IsGap (map.keys s.entries) key place → map.len s.entries < s.capacity → row ≡ get_or order len 0 → new_keys ≡ set keys row key
      → after ≡ moved order len place → bytes ≡ key → count ≡ length chains.buckets → bucket ≡ bucket_of count bytes → new ≡ record chains { buckets = set chains.buckets bucket (row ∷ get_or chains.buckets bucket []) } → IsIndexed after (len + 1) new_keys new
  put_indexed place row bucket count bytes key after new_keys new gap room at ks is same n hashed linked =
      let spare : len < length order = omega (arith, len_is s order len key_size value_size keys values t view, capacity_is s order len key_size value_size keys values t view, t.count) in
      let le : place ≤ len = place_within s order len key_size value_size keys values t view place key gap in
      let there : row < length keys = subst (λ r. r < length keys) (sym at) (t.rows len 0 spare) in
      let first : take (len + 1) after ≡ insert (take len order) place row =
      rw add-one (ap (take (suc len)) is ∙ take-moved_in order place len le spare ∙ ap (insert (take len order) place) (sym at)) in
      subst (IsIndexed after (len + 1) new_keys) (sym linked)
      (came_in order len keys chains x after new_keys place row bucket key first (next_apart row room at) ks there (hashed ∙ ap₂ bucket_of n same))

  first_at : (place row : ℕ) → place < map.len s.entries → row ≡ get_or order place row → get_or (take len order) place 0 ≡ row
  first_at place row lt at =
      let under : place < len = omega (arith, len_is s order len key_size value_size keys values t view) in
      get_or-take len order place 0 under ∙ get_or_default order place 0 row (omega (arith, t.len_within)) ∙ sym at

  pub taken_linked : (place row : ℕ) → place < map.len s.entries → row ≡ get_or order place row → (bucket : ℕ) × (has row (get_or chains.buckets bucket []) ≡ true)
  taken_linked place row lt at =
      chain_of order len keys chains x row
      (has_at (take len order) place row (omega (arith, len_is s order len key_size value_size keys values t view, length-take-le len order t.len_within)) (first_at place row lt at))

  take_indexed : (place row : ℕ) (after : List ℕ) (new : Chained) → place < map.len s.entries → row ≡ get_or order place row → after ≡ moved order place (len - 1) → new ≡ record chains { buckets = each (without row) chains.buckets } → IsIndexed after (len - 1) keys new
  take_indexed place row after new lt at is unlinked =
      let under : place < len = omega (arith, len_is s order len key_size value_size keys values t view) in
      let whole : suc (len - 1) ≡ len = omega arith in
      let first : take (len - 1) after ≡ remove (take len order) place =
      ap (take (len - 1)) is ∙ take-moved_out order place (len - 1) (omega arith) (omega (arith, t.len_within)) ∙ ap (λ n. remove (take n order) place) whole in
      let within : place < length (take len order) = omega (arith, length-take-le len order t.len_within) in
      subst (IsIndexed after (len - 1) keys) (sym unlinked)
      (went_out order len keys chains x after (len - 1) place row first (first_once order len t.len_within t.once) within (sym (get_or_default (take len order) place row 0 within ∙ first_at place row lt at)))

  -- the row that the code reads of those that hold no entry
  pub next_row : (n row : ℕ) → n ≡ length ordered.rows → map.len s.entries < s.capacity → row ≡ get_or free n row → row ≡ get_or (all_rows ordered.rows free) (length ordered.rows) 0
  next_row n row is room at =
      let some : n < length free = omega (arith, kept.room, len_is s order len key_size value_size keys values t view, capacity_is s order len key_size value_size keys values t view) in
      let none : length ordered.rows - length ordered.rows ≡ 0 = omega arith in
      let there : length ordered.rows + 0 ≡ n = omega arith in
      at ∙ get_or_default free n row 0 some
      ∙ sym (get_or-append_right ordered.rows (drop (length ordered.rows) free) (length ordered.rows) (length ordered.rows) 0 refl (omega arith)
      ∙ ap (λ k. get_or (drop (length ordered.rows) free) k 0) none
      ∙ get_or-drop (length ordered.rows) free 0 0
      ∙ ap (λ k. get_or free k 0) there)

  pub row_next : (row : ℕ) → map.len s.entries < s.capacity → row ≡ get_or (all_rows ordered.rows free) (length ordered.rows) 0 → row < length keys
  row_next row room at =
      rw at
      (t.rows (length ordered.rows) 0 (omega (arith, len_is s order len key_size value_size keys values t view, capacity_is s order len key_size value_size keys values t view, t.count)))

  pub row_in : (place row : ℕ) → place < map.len s.entries → row ≡ get_or ordered.rows place 0 → row ≡ get_or (all_rows ordered.rows free) place row
  row_in place row lt at =
      let under : place < length ordered.rows = omega (arith, len_is s order len key_size value_size keys values t view) in
      at ∙ get_or_default ordered.rows place 0 row under ∙ sym (get_or_append_left ordered.rows (drop (length ordered.rows) free) row place under)

  pub put_kept : (place row bucket count : ℕ) (bytes key value : List ℕ) (new : Ordered) (new_keys new_values : List (List ℕ)) (new_chains : Chained) → IsGap (map.keys s.entries) key place → map.len s.entries < s.capacity
      → length key ≡ s.key_size → length value ≡ s.value_size → row ≡ get_or (all_rows ordered.rows free) (length ordered.rows) 0 → new_keys ≡ set keys row key → new_values ≡ set values row value
      → new ≡ record ordered { rows = insert ordered.rows place row } → bytes ≡ key → count ≡ length chains.buckets → bucket ≡ bucket_of count bytes
      → new_chains ≡ record chains { buckets = set chains.buckets bucket (row ∷ get_or chains.buckets bucket []) }
      → IsKeptAs new free key_size value_size new_keys new_values new_chains (with_entries s (map.insert s.entries key value))
  put_kept place row bucket count bytes key value new new_keys new_values new_chains gap room ksize vsize at ks vs is same n hashed linked =
      let le : place ≤ length ordered.rows = place_within s order len key_size value_size keys values t view place key gap in
      let some : length ordered.rows < length free = omega (arith, kept.room, len_is s order len key_size value_size keys values t view, capacity_is s order len key_size value_size keys values t view) in
      let none : length ordered.rows - length ordered.rows ≡ 0 = omega arith in
      let there : length ordered.rows + 0 ≡ length ordered.rows = omega arith in
      let read : row ≡ get_or free (length ordered.rows) 0 =
      at ∙ get_or-append_right ordered.rows (drop (length ordered.rows) free) (length ordered.rows) (length ordered.rows) 0 refl (omega arith)
      ∙ ap (λ k. get_or (drop (length ordered.rows) free) k 0) none
      ∙ get_or-drop (length ordered.rows) free 0 0
      ∙ ap (λ k. get_or free k 0) there in
      let turned : all_rows (insert ordered.rows place row) free ≡ moved (all_rows ordered.rows free) (length ordered.rows) place = put_moved ordered.rows free place row le some read in
      let long : length (insert ordered.rows place row) ≡ length ordered.rows + 1 = length-insert ordered.rows place row le in
      let seen_new : IsSeen (all_rows (insert ordered.rows place row) free) (length ordered.rows + 1) key_size value_size new_keys new_values (with_entries s (map.insert s.entries key value)) =
      put_in s order len key_size value_size keys values t view place row key value _ new_keys new_values gap room (ksize ∙ sym (ap (λ (k : Kept). k.key_size) view)) (vsize ∙ sym (ap (λ (k : Kept). k.value_size) view)) at ks vs turned in
      let indexed : IsIndexed (all_rows (insert ordered.rows place row) free) (length ordered.rows + 1) new_keys new_chains = put_indexed place row bucket count bytes key _ new_keys new_chains gap room at ks turned same n hashed linked in
      let counted : IsSeen (all_rows (insert ordered.rows place row) free) (length (insert ordered.rows place row)) key_size value_size new_keys new_values (with_entries s (map.insert s.entries key value)) =
      subst (λ n. IsSeen (all_rows (insert ordered.rows place row) free) n key_size value_size new_keys new_values (with_entries s (map.insert s.entries key value))) (sym long) seen_new in
      let keys_long : length new_keys ≡ length keys = ap length ks ∙ length-set keys row key in
      subst (λ (o : Ordered). IsKeptAs o free key_size value_size new_keys new_values new_chains (with_entries s (map.insert s.entries key value))) (sym is)
      (record {
        invariant = record {
          table = counted.table;
          index = subst (λ n. IsIndexed (all_rows (insert ordered.rows place row) free) n new_keys new_chains) (sym long) indexed;
          capacity = kept.capacity ∙ sym keys_long;
          room = kept.room ∙ sym keys_long;
        };
        view = counted.view;
      })

  pub left_within : (place left : ℕ) (new : Ordered) → place < map.len s.entries → new ≡ record ordered { rows = remove ordered.rows place } → left ≡ length new.rows → left < length free
  left_within place left new lt is count =
      let under : place < length ordered.rows = omega (arith, len_is s order len key_size value_size keys values t view) in
      let less : length (remove ordered.rows place) + 1 ≡ length ordered.rows = length-remove ordered.rows place under in
      let left_is : left ≡ length (remove ordered.rows place) = count ∙ ap (λ (o : Ordered). length o.rows) is in
      omega (arith, kept.room, t.len_within, t.count)

  pub take_kept : (place row left : ℕ) (new : Ordered) (new_free : List ℕ) (new_chains : Chained) → place < map.len s.entries → row ≡ get_or ordered.rows place 0 → new ≡ record ordered { rows = remove ordered.rows place } → left ≡ length new.rows
      → new_free ≡ set free left row → new_chains ≡ record chains { buckets = each (without row) chains.buckets }
      → IsKeptAs new new_free key_size value_size keys values new_chains (with_entries s (map.remove s.entries (get_or (map.keys s.entries) place [])))
  take_kept place row left new new_free new_chains lt at is count freed unlinked =
      let under : place < length ordered.rows = omega (arith, len_is s order len key_size value_size keys values t view) in
      let less : length (remove ordered.rows place) + 1 ≡ length ordered.rows = length-remove ordered.rows place under in
      let left_is : left ≡ length (remove ordered.rows place) = count ∙ ap (λ (o : Ordered). length o.rows) is in
      let left_as : length (remove ordered.rows place) ≡ length ordered.rows - 1 = omega arith in
      let some : left < length free = left_within place left new lt is count in
      let last : left ≡ length ordered.rows - 1 = left_is ∙ left_as in
      let turned : all_rows (remove ordered.rows place) new_free ≡ moved (all_rows ordered.rows free) place (length ordered.rows - 1) =
      ap (all_rows (remove ordered.rows place)) freed
      ∙ take_moved ordered.rows free place row left (omega arith) under some at
      ∙ ap (moved (all_rows ordered.rows free) place) last in
      let seen_new = taken_out s order len key_size value_size keys values t view place (all_rows (remove ordered.rows place) new_free) lt turned in
      let indexed = take_indexed place row (all_rows (remove ordered.rows place) new_free) new_chains lt (row_in place row lt at) turned unlinked in
      let counted : IsSeen (all_rows (remove ordered.rows place) new_free) (length (remove ordered.rows place)) key_size value_size keys values (with_entries s (map.remove s.entries (get_or (map.keys s.entries) place []))) =
      subst (λ n. IsSeen (all_rows (remove ordered.rows place) new_free) n key_size value_size keys values (with_entries s (map.remove s.entries (get_or (map.keys s.entries) place [])))) (sym left_as) seen_new in
      subst (λ (o : Ordered). IsKeptAs o new_free key_size value_size keys values new_chains (with_entries s (map.remove s.entries (get_or (map.keys s.entries) place [])))) (sym is)
      (record {
        invariant = record {
          table = counted.table;
          index = subst (λ n. IsIndexed (all_rows (remove ordered.rows place) new_free) n keys new_chains) (sym left_as) indexed;
          capacity = kept.capacity;
          room = ap length freed ∙ length-set free left row ∙ kept.room;
        };
        view = counted.view;
      })

-- ---- a new table
pub begun_kept : (ordered : Ordered) (free : List ℕ) (chains : Chained) (capacity buckets key_size value_size : ℕ) (keys values : List (List ℕ)) → capacity < 2 ^ 32 → key_size ≤ 260 → value_size ≤ 260 → 0 < buckets
    → ordered ≡ record { rows = []; capacity = capacity } → free ≡ range_with_len 0 capacity → chains ≡ record { rows = capacity; buckets = replicate buckets [] }
    → keys ≡ replicate capacity (replicate key_size 0) → values ≡ replicate capacity (replicate value_size 0)
    → IsKeptAs ordered free key_size value_size keys values chains (record { entries = map.empty; capacity = capacity; key_size = key_size; value_size = value_size })
begun_kept ordered free chains capacity buckets key_size value_size keys values few small_keys small_values some os fs cs ks vs =
    let keys_long : length keys ≡ capacity = ap length ks ∙ length-replicate capacity _ in
    let free_long : length free ≡ capacity = ap length fs ∙ length-range_with_len 0 capacity in
    let n = begun free capacity key_size value_size keys values few small_keys small_values fs ks vs in
    subst (λ (o : Ordered). IsKeptAs o free key_size value_size keys values chains (record { entries = map.empty; capacity = capacity; key_size = key_size; value_size = value_size })) (sym os)
    (record {
      invariant = record {
        table = n.table;
        index = subst (IsIndexed free 0 keys) (sym cs) (none_indexed free keys capacity buckets (sym keys_long) some);
        capacity = sym keys_long;
        room = free_long ∙ sym keys_long;
      };
      view = n.view;
    })
