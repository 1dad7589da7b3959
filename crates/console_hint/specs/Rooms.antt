-- Why a map has no place for what it is given.
use Rattle.std.specs.Prelude.{ℕ, ◌==◌, ◌&&◌, if◌then◌else◌, Bool, true, false, List, length, Option, Some, None}
use Rattle.bt_mapkind.specs.declared.attr.MapType.{MapType}
use Rattle.bt_mapkind.specs.declared.attr.MapType.TheVariants.{Array, Hash, LpmTrie, Queue, Stack, ArrayOfMaps, ProgArray, HashOfMaps}
use Rattle.bt_mapkind.specs.Index.{index_of}
use Rattle.console_hint.specs.declared.room.NoRoom.{NoRoom}
use Rattle.console_hint.specs.declared.room.NoRoom.TheVariants.{Full, Past}

-- whether a map of a type has indices
abbrev pub is_indexed : MapType → Bool
is_indexed Array = true
is_indexed Hash = false
is_indexed LpmTrie = false
is_indexed Queue = false
is_indexed Stack = false
is_indexed ArrayOfMaps = true
is_indexed ProgArray = true
is_indexed HashOfMaps = false

-- the index that the key is, if the map has indices; else the map is full
abbrev pub no_room : MapType → Option (List ℕ) → NoRoom
no_room kind None = Full
no_room kind (Some key) = if is_indexed kind && (length key == 4) then Past (index_of key) else Full
