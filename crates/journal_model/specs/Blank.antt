-- A blank is what contracts see of a box that is handed in for a new map.
use Rattle.std.specs.Prelude.{◌≡◌, Bool, ◌==◌, ◌&&◌, ◌↔◌, IsTrue}
use Rattle.bt_mapkind.specs.declared.attr.MapAttr.{MapAttr}
use Rattle.bt_mapkind.specs.Codes.{number_of_type}
use Rattle.bt_mapkind.specs.Seen.{Seen, IsFresh}
use Rattle.bt_objects.specs.Boxes.{make_of}
use Rattle.bt_objects.specs.declared.make.Make.{Make}

-- its attributes and its charge, and whether it holds what a new map holds
pub record Blank : Type 0 where
  pub make : Make
  pub fresh : Bool

-- whether two attributes are the same
abbrev pub is_same_attr : MapAttr → MapAttr → Bool
is_same_attr a b =
    number_of_type a.kind == number_of_type b.kind
    && a.key_size == b.key_size
    && a.value_size == b.value_size
    && a.max_entries == b.max_entries
    && a.flags == b.flags

-- whether a map of these attributes can be made of it
abbrev pub suits : MapAttr → Blank → Bool
suits attr blank = blank.fresh && is_same_attr blank.make.attr attr

-- the blank of a box
pub record IsBlankOf (seen : Seen) (blank : Blank) : Type 0 where
  pub make : blank.make ≡ make_of seen
  pub fresh : IsTrue blank.fresh ↔ IsFresh seen
