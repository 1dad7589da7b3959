-- What a map of ids keeps beside its slots or its table.
use Rattle.std.specs.Prelude.{◌≡◌, ℕ, true, List, length, Option}
use Rattle.bt_mapkind.specs.declared.attr.MapAttr.{MapAttr}
use Rattle.bt_mapkind.specs.declared.attr.MapType.TheVariants.{HashOfMaps}
use Rattle.bt_mapkind.specs.Attributes.{good, IsGoodFor}
use Rattle.bt_mapkind.specs.Contents.{Slots, Links}
use Rattle.bt_mapkind.specs.Well.{IsWell, EachEntry}
use Rattle.map_table.specs.Table.{Kept}
use Rattle.bt_nested.specs.Ids.{ids_of}

-- good attributes with keys of four bytes, and slots that a map of these attributes can hold
pub record IsArrayOfIds (a : MapAttr) (slots : List (Option ℕ)) : Type 0 where
  pub limits : good a ≡ true
  pub key_size : a.key_size ≡ 4
  pub well : IsWell a (Slots slots)

-- a hash's good attributes, a table of their room and their key size whose values are ids of four bytes, and ids that
-- a map of these attributes can hold
pub record IsHashOfIds (a : MapAttr) (table : Kept) : Type 0 where
  pub good : IsGoodFor HashOfMaps a
  pub capacity : table.capacity ≡ a.max_entries
  pub key_size : table.key_size ≡ a.key_size
  pub value_size : table.value_size ≡ 4
  pub ids : EachEntry table.entries (λ key value. length value ≡ 4)
  pub well : IsWell a (Links (ids_of table.entries))
