-- The maps that a program names, each with its attributes, as bytes: six numbers of four bytes for each map, the lowest byte
-- first.
use Rattle.std.specs.Prelude.{ℕ, ◌<◌, ◌^◌, List, [], ◌∷◌, ◌==◌, Option, None, if◌then◌else◌, nat_lt, length, drop, flat_map, find}
use Rattle.std.specs.Option.{option_map}
use Rattle.std.specs.List.{AllByRecursion}
use Rattle.std.specs.Int.{w32, to_le_bytes}
use Rattle.bt_mapkind.specs.declared.attr.MapAttr.{MapAttr}
use Rattle.bt_mapkind.specs.declared.attr.MapType.{MapType}
use Rattle.bt_mapkind.specs.Codes.{number_of_type}
use Rattle.bt_mapkind.specs.Index.{index_of}
use Rattle.kept_event.specs.Words.{types}

abbrev pub numbers_of : ℕ × MapAttr → List ℕ
numbers_of m = m.0 ∷ number_of_type m.1.kind ∷ m.1.key_size ∷ m.1.value_size ∷ m.1.max_entries ∷ m.1.flags ∷ []

abbrev pub map_bytes : ℕ × MapAttr → List ℕ
map_bytes m = flat_map (to_le_bytes w32) (numbers_of m)

abbrev pub maps_bytes : List (ℕ × MapAttr) → List ℕ
maps_bytes maps = flat_map map_bytes maps

-- sizes, entries and flags are numbers of 32 bits
pub record FitsAttr (attr : MapAttr) : Type 0 where
  pub key_size : attr.key_size < 2 ^ 32
  pub value_size : attr.value_size < 2 ^ 32
  pub max_entries : attr.max_entries < 2 ^ 32
  pub flags : attr.flags < 2 ^ 32

pub record FitsMap (m : ℕ × MapAttr) : Type 0 where
  pub id : m.0 < 2 ^ 32
  pub attr : FitsAttr m.1

abbrev pub FitMaps : List (ℕ × MapAttr) → Type 0
FitMaps maps = AllByRecursion FitsMap maps

-- ---- reading them
abbrev pub type_numbered : ℕ → Option MapType
type_numbered number = find (λ kind. number == number_of_type kind) types

-- the map whose bytes come first
unfoldable pub first_map : List ℕ → Option (ℕ × MapAttr)
first_map bytes =
    if nat_lt (length bytes) 24 then None else
    option_map
    (λ kind. (index_of bytes, record { kind = kind; key_size = index_of (drop 8 bytes); value_size = index_of (drop 12 bytes); max_entries = index_of (drop 16 bytes); flags = index_of (drop 20 bytes) }))
    (type_numbered (index_of (drop 4 bytes)))
