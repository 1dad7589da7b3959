-- What a map of entries keeps beside its table, what its index is told of, and why a part of a value cannot be written.
use Rattle.std.specs.Prelude.{◌≡◌, ◌+◌, ◌<◌, ◌≤◌, ℕ, true, List, length, if◌then◌else◌, not, Option, Some, None}
use Rattle.std.specs.FinMap as map
use Rattle.bt_mapkind.specs.declared.attr.MapAttr.{MapAttr}
use Rattle.bt_mapkind.specs.declared.attr.MapType.{MapType}
use Rattle.bt_mapkind.specs.declared.errno.Errno.{Errno}
use Rattle.bt_mapkind.specs.declared.errno.Errno.TheVariants.{ENOENT, EINVAL}
use Rattle.bt_mapkind.specs.Attributes.{IsGoodFor}
use Rattle.bt_mapkind.specs.Contents.{ByKey, Entries}
use Rattle.bt_mapkind.specs.Exchange.{is_address}
use Rattle.bt_mapkind.specs.Prefix.{address}
use Rattle.bt_mapkind.specs.Sizes.{key_fits}
use Rattle.bt_mapkind.specs.Well.{IsWell}
use Rattle.map_table.specs.Table.{Kept, part_fault as table_fault}

-- good attributes of a type, a table of their room and their sizes, and entries that a map of these attributes can hold
pub record IsHeld (kind : MapType) (a : MapAttr) (table : Kept) : Type 0 where
  pub good : IsGoodFor kind a
  pub capacity : table.capacity ≡ a.max_entries
  pub key_size : table.key_size ≡ a.key_size
  pub value_size : table.value_size ≡ a.value_size
  pub well : IsWell a (Entries table.entries)

-- a table has got an entry under a new address, and there was a fact of it before
pub record IsAdded (before : Kept → Type 0) (kind : MapType) (a : MapAttr) (table : Kept) (stored : List ℕ) : Type 0 where
  pub old : Kept
  pub indexed : before old
  pub held : IsHeld kind a old
  pub value : List ℕ
  pub absent : map.get old.entries stored ≡ None
  pub room : map.len old.entries < old.capacity
  pub key_size : length stored ≡ a.key_size
  pub stands : is_address a stored ≡ true
  pub is : table ≡ record old { entries = map.insert old.entries stored value }

-- a table has lost the entry under an address, and there was a fact of it before
pub record IsRemoved (before : Kept → Type 0) (table : Kept) (stored : List ℕ) : Type 0 where
  pub old : Kept
  pub indexed : before old
  pub there : map.contains_key old.entries stored ≡ true
  pub is : table ≡ record old { entries = map.remove old.entries stored }

-- a key of the map's size, and so many bytes from an offset on within a value
pub record PartFits (a : MapAttr) (key : List ℕ) (offset size : ℕ) : Type 0 where
  pub key_size : length key ≡ a.key_size
  pub range : offset + size ≤ a.value_size

-- why a part of the value under an address cannot be written
abbrev pub range_fault : MapAttr → ByKey (List ℕ) → Option (List ℕ) → ℕ → ℕ → Option Errno
range_fault a m None offset size = Some ENOENT
range_fault a m (Some stored) offset size = table_fault a.value_size m stored offset size

-- why a part of the value under a key cannot be written
abbrev pub part_fault : MapAttr → ByKey (List ℕ) → List ℕ → ℕ → ℕ → Option Errno
part_fault a m key offset size = if not (key_fits a key) then Some EINVAL else range_fault a m (address a key) offset size
