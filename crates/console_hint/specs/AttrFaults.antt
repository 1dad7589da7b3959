-- What may be wrong with the attributes of a new map.
use Rattle.std.specs.Prelude.{◌≡◌, ℕ, false, if◌then◌else◌}
use Rattle.bt_mapkind.specs.declared.attr.MapAttr.{MapAttr}
use Rattle.bt_mapkind.specs.declared.attr.MapType.{MapType}
use Rattle.bt_mapkind.specs.Attributes.{is_within, suits_type, is_lpm}
use Rattle.console_hint.specs.declared.attributes.AttrFault.{AttrFault}
use Rattle.console_hint.specs.declared.attributes.AttrFault.TheVariants as fault

-- flags that a map of a type may have
abbrev pub flags_of : MapType → ℕ
flags_of kind = if is_lpm kind then 1 else 0

-- no map of the type has keys of this size, whatever its values and flags
abbrev pub IsNoKeySize : MapType → ℕ → Type 0
IsNoKeySize kind size = (value flags : ℕ) → suits_type kind size value flags ≡ false

-- nor values of this size, whatever its keys and flags
abbrev pub IsNoValueSize : MapType → ℕ → Type 0
IsNoValueSize kind size = (key flags : ℕ) → suits_type kind key size flags ≡ false

-- nor these flags, whatever its keys and values
abbrev pub AreNoFlags : MapType → ℕ → Type 0
AreNoFlags kind flags = (key value : ℕ) → suits_type kind key value flags ≡ false

-- the attributes have this fault
abbrev pub IsFaultOf : MapAttr → AttrFault → Type 0
IsFaultOf attr (fault.Value given) = (given ≡ attr.value_size) × (is_within 1 256 given ≡ false)
IsFaultOf attr (fault.Entries given) = (given ≡ attr.max_entries) × (is_within 1 65536 given ≡ false)
IsFaultOf attr (fault.Key kind given) = (kind ≡ attr.kind) × (given ≡ attr.key_size) × IsNoKeySize kind given
IsFaultOf attr (fault.Id given) = (given ≡ attr.value_size) × IsNoValueSize attr.kind given
IsFaultOf attr (fault.Flags kind given) = (kind ≡ attr.kind) × (given ≡ attr.flags) × AreNoFlags kind given
