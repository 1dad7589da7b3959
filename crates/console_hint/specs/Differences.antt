-- In what an inner map is unlike another one.
use Rattle.std.specs.Prelude.{◌==◌, ◌&&◌, not, if◌then◌else◌, Option, Some, None}
use Rattle.bt_mapkind.specs.declared.attr.MapAttr.{MapAttr}
use Rattle.bt_mapkind.specs.Inner.{type_number}
use Rattle.console_hint.specs.declared.difference.Difference.{Difference}
use Rattle.console_hint.specs.declared.difference.Difference.TheVariants.{Kind, KeySize, ValueSize, Flags, Entries}

-- the first of type, sizes, flags and the entries of an array, whose number is 2
abbrev pub difference_of : MapAttr → MapAttr → Option Difference
difference_of other map =
    if not (type_number map.kind == type_number other.kind) then Some (Kind other.kind map.kind) else
    if not (map.key_size == other.key_size) then Some (KeySize other.key_size map.key_size) else
    if not (map.value_size == other.value_size) then Some (ValueSize other.value_size map.value_size) else
    if not (map.flags == other.flags) then Some (Flags other.flags map.flags) else
    if (type_number other.kind == 2) && not (map.max_entries == other.max_entries) then Some (Entries other.max_entries map.max_entries) else
    None
