-- What stands against an id in a map of ids (Documentation/bpf/map_of_maps.rst): the form of the key and the flag, and
-- the object that the id names.
use Rattle.std.specs.Prelude.{ℕ, Bool, true, false, ◌&&◌, ◌||◌, not, ◌==◌, nat_le, List, Option, Some, None, if◌then◌else◌}
use Rattle.bt_mapkind.specs.declared.attr.MapAttr.{MapAttr}
use Rattle.bt_mapkind.specs.declared.attr.MapType.{MapType}
use Rattle.bt_mapkind.specs.declared.attr.MapType.TheVariants.{Array, Hash, LpmTrie, Queue, Stack, ArrayOfMaps, ProgArray, HashOfMaps}
use Rattle.bt_mapkind.specs.declared.errno.Errno.{Errno}
use Rattle.bt_mapkind.specs.declared.errno.Errno.TheVariants.{ENOENT, EINVAL, E2BIG}
use Rattle.bt_mapkind.specs.Sizes.{key_fits}
use Rattle.bt_mapkind.specs.Index.{index_of}

-- whether a map of this type holds the ids of maps, for which it has a template
abbrev pub needs_template : MapType → Bool
needs_template ArrayOfMaps = true
needs_template HashOfMaps = true
needs_template _ = false

-- whether it holds those of programs
abbrev pub holds_progs : MapType → Bool
holds_progs ProgArray = true
holds_progs _ = false

abbrev pub holds_ids : MapType → Bool
holds_ids kind = holds_progs kind || needs_template kind

-- whether it holds ids by index
abbrev pub has_slots : MapType → Bool
has_slots ArrayOfMaps = true
has_slots ProgArray = true
has_slots _ = false

-- what stands against a link whatever the map holds
abbrev pub form_fault : MapAttr → List ℕ → ℕ → Option Errno
form_fault a key flag =
    if not (holds_ids a.kind && key_fits a key) then Some EINVAL else
    if has_slots a.kind && not (flag == 0) then Some EINVAL else
    if has_slots a.kind && nat_le a.max_entries (index_of key) then Some E2BIG else
    None

-- the number of a type in linux/bpf.h
abbrev pub type_number : MapType → ℕ
type_number Hash = 1
type_number Array = 2
type_number ProgArray = 3
type_number LpmTrie = 11
type_number ArrayOfMaps = 12
type_number HashOfMaps = 13
type_number Queue = 22
type_number Stack = 23

-- whether an inner map agrees with a template: in type, sizes and flags, and an array in its entries too
abbrev pub agrees : MapAttr → MapAttr → Bool
agrees t a =
    (type_number a.kind == type_number t.kind) && (a.key_size == t.key_size) && (a.value_size == t.value_size)
    && (a.flags == t.flags) && (not (type_number t.kind == type_number Array) || (a.max_entries == t.max_entries))

-- what stands against the object that is named: that no such object is live, or that its attributes are not those of
-- the template
abbrev pub map_fault : Option MapAttr → Option MapAttr → Option Errno
map_fault template None = Some ENOENT
map_fault None (Some a) = Some EINVAL
map_fault (Some t) (Some a) = if agrees t a then None else Some EINVAL
