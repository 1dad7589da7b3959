-- The attributes that a map of each type can have, and what such a map charges.
use Rattle.std.specs.Prelude.{◌≡◌, ℕ, Bool, true, false, ◌==◌, nat_le, ◌&&◌, ◌*◌, ◌+◌}
use Rattle.bt_mapkind.specs.declared.attr.MapAttr.{MapAttr}
use Rattle.bt_mapkind.specs.declared.attr.MapType.{MapType}
use Rattle.bt_mapkind.specs.declared.attr.MapType.TheVariants.{Array, Hash, LpmTrie, Queue, Stack, ArrayOfMaps, ProgArray, HashOfMaps}

-- from the first to the second, both among them
abbrev pub is_within : ℕ → ℕ → ℕ → Bool
is_within low high n = nat_le low n && nat_le n high

-- the key sizes, value sizes and flags of a type
abbrev pub suits_type : MapType → ℕ → ℕ → ℕ → Bool
suits_type Array key value flags = (key == 4) && (flags == 0)
suits_type Hash key value flags = is_within 1 64 key && nat_le flags 1
suits_type LpmTrie key value flags = is_within 5 260 key && (flags == 1)
suits_type Queue key value flags = (key == 0) && (flags == 0)
suits_type Stack key value flags = (key == 0) && (flags == 0)
suits_type ArrayOfMaps key value flags = (key == 4) && (value == 4) && (flags == 0)
suits_type ProgArray key value flags = (key == 4) && (value == 4) && (flags == 0)
suits_type HashOfMaps key value flags = is_within 1 64 key && (value == 4) && nat_le flags 1

abbrev pub good : MapAttr → Bool
good a = is_within 1 256 a.value_size && is_within 1 65536 a.max_entries && suits_type a.kind a.key_size a.value_size a.flags

-- good attributes of a type
pub record IsGoodFor (kind : MapType) (a : MapAttr) : Type 0 where
  pub type : a.kind ≡ kind
  pub limits : good a ≡ true

-- a map's room is reserved when it is made: a key and a value for each entry
abbrev pub charge_of : MapAttr → ℕ
charge_of a = a.max_entries * (a.key_size + a.value_size)

abbrev pub is_lpm : MapType → Bool
is_lpm Array = false
is_lpm Hash = false
is_lpm LpmTrie = true
is_lpm Queue = false
is_lpm Stack = false
is_lpm ArrayOfMaps = false
is_lpm ProgArray = false
is_lpm HashOfMaps = false

abbrev pub is_stack : MapType → Bool
is_stack Array = false
is_stack Hash = false
is_stack LpmTrie = false
is_stack Queue = false
is_stack Stack = true
is_stack ArrayOfMaps = false
is_stack ProgArray = false
is_stack HashOfMaps = false
