-- What a queue or a stack keeps beside its ring.
use Rattle.std.specs.Prelude.{◌≡◌, true}
use Rattle.bt_mapkind.specs.declared.attr.MapAttr.{MapAttr}
use Rattle.bt_mapkind.specs.Attributes.{good}
use Rattle.bt_mapkind.specs.Contents.{Items}
use Rattle.bt_mapkind.specs.Well.{IsWell}
use Rattle.bt_queue.specs.Window.{Kept}

-- good attributes, a ring of their room and their size, and items that a map of these attributes can hold
pub record IsHeld (a : MapAttr) (ring : Kept) : Type 0 where
  pub limits : good a ≡ true
  pub capacity : ring.capacity ≡ a.max_entries
  pub size : ring.size ≡ a.value_size
  pub well : IsWell a (Items ring.items)
