-- Which operations a map of some attributes does not have.
use Rattle.std.specs.Prelude.{◌≡◌, ◌≢◌, ℕ, ◌-◌, ◌*◌, ◌<◌, ◌==◌, ◌&&◌, not, nat_lt, if◌then◌else◌, Bool, true, false, List, length, Option, Some, None, IfSome}
use Rattle.std.specs.Option.{option_and_then}
use Rattle.bt_mapkind.specs.declared.attr.MapAttr.{MapAttr}
use Rattle.bt_mapkind.specs.declared.attr.MapType.{MapType}
use Rattle.bt_mapkind.specs.declared.attr.MapType.TheVariants.{Array, Hash, LpmTrie, Queue, Stack, ArrayOfMaps, ProgArray, HashOfMaps}
use Rattle.bt_mapkind.specs.Attributes.{is_within, is_lpm}
use Rattle.bt_mapkind.specs.Index.{index_of}
use Rattle.console_hint.specs.declared.misfit.Misfit.{Misfit}
use Rattle.console_hint.specs.declared.misfit.Misfit.TheVariants.{NoKeys, NoItems, KeyMissing, KeySize, ValueSize, NoIds, OnlyIds, Undeletable, Prefix}
use Rattle.console_hint.specs.declared.operation.Given.{Given}
use Rattle.console_hint.specs.declared.operation.Given.TheVariants.{Bytes, Id}
use Rattle.console_hint.specs.declared.operation.Verb.{Verb}
use Rattle.console_hint.specs.declared.operation.Verb.TheVariants as verb
use Rattle.console_hint.specs.declared.operation.Operation.{Operation}

-- a queue and a stack have items and no keys
abbrev pub has_items : MapType → Bool
has_items Array = false
has_items Hash = false
has_items LpmTrie = false
has_items Queue = true
has_items Stack = true
has_items ArrayOfMaps = false
has_items ProgArray = false
has_items HashOfMaps = false

-- maps of maps and of programs hold ids
abbrev pub holds_ids : MapType → Bool
holds_ids Array = false
holds_ids Hash = false
holds_ids LpmTrie = false
holds_ids Queue = false
holds_ids Stack = false
holds_ids ArrayOfMaps = true
holds_ids ProgArray = true
holds_ids HashOfMaps = true

-- what is done with the item that comes next
abbrev pub is_of_items : Verb → Bool
is_of_items verb.Update = false
is_of_items verb.LookUp = false
is_of_items verb.Next = false
is_of_items verb.Delete = false
is_of_items verb.Peek = true
is_of_items verb.Push = true
is_of_items verb.Pop = true

-- the map has no such key: its keys have another size, or its addresses fewer bits than the prefix
abbrev pub IsKeyMisfit : MapAttr → List ℕ → Misfit → Type 0
IsKeyMisfit attr key (KeySize has given) = (has ≡ attr.key_size) × (given ≡ length key) × (given ≢ has)
IsKeyMisfit attr key (Prefix bits given) = (attr.kind ≡ LpmTrie) × (bits ≡ (attr.key_size - 4) * 8) × (given ≡ index_of key) × (bits < given)
IsKeyMisfit attr key _ = ⊥

-- the map holds no such value: its values have another size, or it holds ids, or no ids
abbrev pub IsValueMisfit : MapAttr → Given → Misfit → Type 0
IsValueMisfit attr (Bytes count) (ValueSize has given) = (has ≡ attr.value_size) × (given ≡ count) × (given ≢ has)
IsValueMisfit attr (Bytes count) OnlyIds = holds_ids attr.kind ≡ true
IsValueMisfit attr Id NoIds = holds_ids attr.kind ≡ false
IsValueMisfit attr value _ = ⊥

-- the map has no such operation
abbrev pub IsMisfit : MapAttr → Operation → Misfit → Type 0
IsMisfit attr it NoKeys = has_items attr.kind ≡ true
IsMisfit attr it NoItems = (has_items attr.kind ≡ false) × (is_of_items it.verb ≡ true)
IsMisfit attr it KeyMissing = (has_items attr.kind ≡ false) × (it.key ≡ None)
IsMisfit attr it Undeletable = (attr.kind ≡ Array) × (it.verb ≡ verb.Delete)
IsMisfit attr it (KeySize has given) = IfSome it.key (λ key. IsKeyMisfit attr key (KeySize has given))
IsMisfit attr it (Prefix bits given) = IfSome it.key (λ key. IsKeyMisfit attr key (Prefix bits given))
IsMisfit attr it (ValueSize has given) = IfSome it.value (λ value. IsValueMisfit attr value (ValueSize has given))
IsMisfit attr it NoIds = IfSome it.value (λ value. IsValueMisfit attr value NoIds)
IsMisfit attr it OnlyIds = IfSome it.value (λ value. IsValueMisfit attr value OnlyIds)

-- ---- the first reason of key, kind of operation and value

abbrev pub is_array : MapType → Bool
is_array Array = true
is_array Hash = false
is_array LpmTrie = false
is_array Queue = false
is_array Stack = false
is_array ArrayOfMaps = false
is_array ProgArray = false
is_array HashOfMaps = false

abbrev pub is_delete : Verb → Bool
is_delete verb.Update = false
is_delete verb.LookUp = false
is_delete verb.Next = false
is_delete verb.Delete = true
is_delete verb.Peek = false
is_delete verb.Push = false
is_delete verb.Pop = false

-- a key of another size, or a prefix longer than the addresses
abbrev pub key_misfit : MapAttr → List ℕ → Option Misfit
key_misfit attr key =
    if not (length key == attr.key_size) then Some (KeySize attr.key_size (length key)) else
    if is_lpm attr.kind && is_within 4 260 (length key) && nat_lt ((attr.key_size - 4) * 8) (index_of key)
    then Some (Prefix ((attr.key_size - 4) * 8) (index_of key)) else
    None

abbrev pub keyed_misfit : MapAttr → Verb → List ℕ → Option Misfit
keyed_misfit attr it key =
    if has_items attr.kind then Some NoKeys else
    if is_array attr.kind && is_delete it then Some Undeletable else
    key_misfit attr key

-- without a key: the first one is next, an item is taken or put, and all else lacks the key
abbrev pub keyless_misfit : MapType → Verb → Option Misfit
keyless_misfit kind verb.Next = if has_items kind then Some NoKeys else None
keyless_misfit kind verb.Peek = if has_items kind then None else Some NoItems
keyless_misfit kind verb.Push = if has_items kind then None else Some NoItems
keyless_misfit kind verb.Pop = if has_items kind then None else Some NoItems
keyless_misfit kind verb.Update = if has_items kind then None else Some KeyMissing
keyless_misfit kind verb.LookUp = if has_items kind then None else Some KeyMissing
keyless_misfit kind verb.Delete = if has_items kind then None else Some KeyMissing

abbrev pub asked_misfit : MapAttr → Verb → Option (List ℕ) → Option Misfit
asked_misfit attr it (Some key) = keyed_misfit attr it key
asked_misfit attr it None = keyless_misfit attr.kind it

abbrev pub value_misfit : MapAttr → Given → Option Misfit
value_misfit attr Id = if holds_ids attr.kind then None else Some NoIds
value_misfit attr (Bytes count) =
    if holds_ids attr.kind then Some OnlyIds else
    if count == attr.value_size then None else
    Some (ValueSize attr.value_size count)

abbrev pub or_of_value : Option Misfit → MapAttr → Option Given → Option Misfit
or_of_value (Some misfit) attr value = Some misfit
or_of_value None attr value = option_and_then (value_misfit attr) value

abbrev pub misfit_of : MapAttr → Operation → Option Misfit
misfit_of attr it = or_of_value (asked_misfit attr it.verb it.key) attr it.value
