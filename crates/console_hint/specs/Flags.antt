-- Which flags an update of a map of some type does not have.
use Rattle.std.specs.Prelude.{◌≡◌, ◌≢◌, true, Option, Some, None}
use Rattle.bt_mapkind.specs.declared.attr.MapType.{MapType}
use Rattle.bt_mapkind.specs.declared.attr.MapType.TheVariants.{Array, Hash, LpmTrie, Queue, Stack, ArrayOfMaps, ProgArray, HashOfMaps}
use Rattle.bt_mapkind.specs.Inner.{has_slots}
use Rattle.console_map_syntax.specs.declared.command.UpdateFlag.{UpdateFlag}
use Rattle.console_map_syntax.specs.declared.command.UpdateFlag.TheVariants.{Any, Exist, NoExist}
use Rattle.console_hint.specs.Misfits.{has_items}
use Rattle.console_hint.specs.declared.flag.FlagFault.{FlagFault}
use Rattle.console_hint.specs.declared.flag.FlagFault.TheVariants as fault

-- a queue or a stack has no `noexist`, and a map of ids by index has `any` alone
abbrev pub IsFlagFault : MapType → UpdateFlag → FlagFault → Type 0
IsFlagFault kind flag fault.NoExist = (has_items kind ≡ true) × (flag ≡ NoExist)
IsFlagFault kind flag fault.NotAny = (has_slots kind ≡ true) × (flag ≢ Any)

abbrev pub flag_fault : MapType → UpdateFlag → Option FlagFault
flag_fault kind Any = None
flag_fault Queue NoExist = Some fault.NoExist
flag_fault Stack NoExist = Some fault.NoExist
flag_fault ArrayOfMaps flag = Some fault.NotAny
flag_fault ProgArray flag = Some fault.NotAny
flag_fault kind flag = None
