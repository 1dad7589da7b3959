-- What stands at a place of a map.
use Rattle.std.specs.Prelude.{◌≡◌, ℕ, List, Option, None, slice_get, slice_index_or, Ok, Err}
use Rattle.std.specs.FinMap as map
use Rattle.bt_mapkind.specs.declared.errno.Errno.TheVariants.{EINVAL}
use Rattle.bt_mapkind.specs.Contents.{Contents, Values, Entries, Items, Slots, Links}
use Rattle.map_laws.specs.Place.{Place, AtIndex, AtKey}
use Rattle.bt_mapkind.specs.Read.{Read, found_at, link_found}

-- the value at a place, and the id
abbrev pub value_at : Contents → Place → Option (List ℕ)
value_at (Values vs) (AtIndex n) = slice_get vs n
value_at (Entries m) (AtKey key) = map.get m key
value_at c p = None

abbrev pub id_at : Contents → Place → Option ℕ
id_at (Slots ls) (AtIndex n) = slice_index_or ls n None
id_at (Links m) (AtKey key) = map.get m key
id_at c p = None

-- the same value and the same id stand at a place
pub record SameAt (c new : Contents) (p : Place) : Type 0 where
  pub value : value_at new p ≡ value_at c p
  pub id : id_at new p ≡ id_at c p

-- what a look-up makes of what stands at a place; a queue or a stack has none
abbrev pub looked_up : Contents → List ℕ → Place → Read
looked_up (Values vs) key p = Ok (found_at key (value_at (Values vs) p))
looked_up (Entries m) key p = Ok (found_at key (value_at (Entries m) p))
looked_up (Items xs) key p = Err EINVAL
looked_up (Slots ls) key p = Ok (link_found (id_at (Slots ls) p))
looked_up (Links m) key p = Ok (link_found (id_at (Links m) p))
