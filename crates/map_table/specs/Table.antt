-- What contracts see of a table, and how its rows hold the entries.
use Rattle.std.specs.Prelude.{◌≡◌, ◌+◌, ◌<◌, ◌≤◌, ◌^◌, ℕ, true, not, if◌then◌else◌, ◌==◌, nat_le, List, [], Option, Some, None, length, map, take, drop, ◌++◌, slice_index, slice_index_or, eqb, All, refl}
use Rattle.std.specs.List.{insert, remove, find as first_where, IsDistinct}
use Rattle.std.specs.Ordering.{is_lt}
use Rattle.std.specs.Coded.{Coded, code_by, coded×, coded_ℕ}
use Rattle.std.specs.FinMap as fin
use Rattle.std.specs.FinMap.{is_sorted, code}
use Rattle.bt_mapkind.specs.declared.errno.Errno.{Errno}
use Rattle.bt_mapkind.specs.declared.errno.Errno.TheVariants.{ENOENT, EINVAL, EEXIST}
use Rattle.bt_mapkind.specs.Codes.{bytes_code}
use Rattle.bt_mapkind.specs.Contents.{ByKey}
use Rattle.map_table.specs.Order.{key_cmp}

-- the entries; for how many there is room, and how many bytes each key and each value has
pub record Kept : Type 0 where
  pub entries : ByKey (List ℕ)
  pub capacity : ℕ
  pub key_size : ℕ
  pub value_size : ℕ

abbrev pub kept_code : Coded Kept
kept_code =
    code_by (ByKey (List ℕ) × (ℕ × (ℕ × ℕ))) (coded× (code bytes_code bytes_code) (coded× coded_ℕ (coded× coded_ℕ coded_ℕ)))
    (λ t. (t.entries, (t.capacity, (t.key_size, t.value_size))))
    (λ p. record { entries = p.0; capacity = p.1.0; key_size = p.1.1.0; value_size = p.1.1.1 }) (λ _. refl)

-- the least key above a key, if there is one
abbrev pub key_after : ByKey (List ℕ) → List ℕ → Option (List ℕ)
key_after m key = first_where (λ other. is_lt (key_cmp key other)) (fin.keys m)

-- why a value cannot be put under a key if so many have room: flag 1 asks for a new key, and 2 for one that is there;
-- the last is the answer to a new key without room
abbrev pub put_fault : ℕ → ByKey (List ℕ) → List ℕ → ℕ → Errno → Option Errno
put_fault capacity m key flag full =
    if fin.contains_key m key then (if flag == 1 then Some EEXIST else None) else
    if flag == 2 then Some ENOENT else
    if nat_le capacity (fin.len m) then Some full else None

-- why so many bytes from an offset on cannot be written into the value under a key, if values have this size
abbrev pub part_fault : ℕ → ByKey (List ℕ) → List ℕ → ℕ → ℕ → Option Errno
part_fault value_size m key offset count =
    if not (fin.contains_key m key) then Some ENOENT else
    if not (nat_le (offset + count) value_size) then Some EINVAL else None

-- the keys in the first rows of an order
abbrev pub row_keys : List ℕ → ℕ → List (List ℕ) → List (List ℕ)
row_keys order len keys = map (λ row. slice_index_or keys row []) (take len order)

-- the entries in the first rows of an order
abbrev pub row_entries : List ℕ → ℕ → List (List ℕ) → List (List ℕ) → List (List ℕ × List ℕ)
row_entries order len keys values = map (λ row. (slice_index_or keys row [], slice_index_or values row [])) (take len order)

-- the rows of the entries, and then those that hold none, which are free from the number of the first on
abbrev pub all_rows : List ℕ → List ℕ → List ℕ
all_rows rows free = rows ++ drop (length rows) free

-- a list with what stands at one place moved to another
abbrev pub moved : List ℕ → ℕ → ℕ → List ℕ
moved xs from to = insert (remove xs from) to (slice_index xs from)

-- what a table keeps: the order names each row once, and its first rows hold the entries by ascending key
pub record IsTable (order : List ℕ) (len key_size value_size : ℕ) (keys values : List (List ℕ)) : Type 0 where
  pub sorted : is_sorted key_cmp (row_entries order len keys values) ≡ true
  pub len_within : len ≤ length order
  pub count : length order ≡ length keys
  pub value_count : length values ≡ length keys
  pub few : length keys < 2 ^ 32
  pub rows : All (λ row. row < length keys) order
  pub once : IsDistinct eqb order
  pub key_sizes : All (λ key. length key ≡ key_size) keys
  pub value_sizes : All (λ value. length value ≡ value_size) values
  pub small_keys : key_size ≤ 260
  pub small_values : value_size ≤ 260
