-- Contents that a map of given attributes can hold: of its type's shape, with its sizes, within its room.
use Rattle.std.specs.Prelude.{◌≡◌, ◌≤◌, ℕ, true, List, length, All, Some}
use Rattle.std.specs.FinMap as map
use Rattle.bt_mapkind.specs.declared.attr.MapAttr.{MapAttr}
use Rattle.bt_mapkind.specs.declared.attr.MapType.{MapType}
use Rattle.bt_mapkind.specs.declared.attr.MapType.TheVariants.{Array, Hash, LpmTrie, Queue, Stack, ArrayOfMaps, ProgArray, HashOfMaps}
use Rattle.bt_mapkind.specs.Contents.{Contents, ByKey, Values, Entries, Items, Slots, Links}
use Rattle.bt_mapkind.specs.Exchange.{is_address}

-- the shapes of contents
pub data Shape : Type 0 where
  OfValues : Shape
  OfEntries : Shape
  OfItems : Shape
  OfSlots : Shape
  OfLinks : Shape

abbrev pub shape_of_type : MapType → Shape
shape_of_type Array = OfValues
shape_of_type Hash = OfEntries
shape_of_type LpmTrie = OfEntries
shape_of_type Queue = OfItems
shape_of_type Stack = OfItems
shape_of_type ArrayOfMaps = OfSlots
shape_of_type ProgArray = OfSlots
shape_of_type HashOfMaps = OfLinks

abbrev pub shape_of : Contents → Shape
shape_of (Values vs) = OfValues
shape_of (Entries m) = OfEntries
shape_of (Items xs) = OfItems
shape_of (Slots ls) = OfSlots
shape_of (Links m) = OfLinks

-- a fact of every key and what stands under it
abbrev pub EachEntry : {X : Type 0} → ByKey X → (List ℕ → X → Type 0) → Type 0
EachEntry {X} m P = (key : List ℕ) (x : X) → map.get m key ≡ Some x → P key x

-- a key of the map's size under which an entry can stand, with a value of the map's size
pub record IsEntry (a : MapAttr) (key value : List ℕ) : Type 0 where
  pub key_size : length key ≡ a.key_size
  pub stands : is_address a key ≡ true
  pub value_size : length value ≡ a.value_size

-- sizes and room
abbrev pub HasSizes : MapAttr → Contents → Type 0
HasSizes a (Values vs) = (length vs ≡ a.max_entries) × All (λ v. length v ≡ a.value_size) vs
HasSizes a (Entries m) = (map.len m ≤ a.max_entries) × EachEntry m (IsEntry a)
HasSizes a (Items xs) = (length xs ≤ a.max_entries) × All (λ v. length v ≡ a.value_size) xs
HasSizes a (Slots ls) = length ls ≡ a.max_entries
HasSizes a (Links m) = (map.len m ≤ a.max_entries) × EachEntry m (λ key id. length key ≡ a.key_size)

pub record IsWell (a : MapAttr) (c : Contents) : Type 0 where
  pub shape : shape_of_type a.kind ≡ shape_of c
  pub sizes : HasSizes a c
